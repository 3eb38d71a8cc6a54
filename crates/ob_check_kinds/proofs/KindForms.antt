-- The names of a type, and how far down another stands, by its base.
use Rattle.std.proofs.Common.{◌≡◌, ℕ, suc, [], ◌∷◌, Option, Some, None, refl, ap, ◌∙◌}
use Rattle.std.specs.Prelude.{option_map, if◌then◌else◌}
use Rattle.ob_types.specs.declared.structure.ObType.{ObType}
use Rattle.ob_types.specs.Types.{same, base_of, chain}
use Rattle.ob_types.proofs.Equations.{chain_step, chain_from}
use Rattle.ob_mean.specs.RecordTypes.{TypeNames}
use Rattle.ob_check_kinds.specs.Kinds.{name_of, names_in, names_of, level_in}

abbrev pub base_names : Option ObType → TypeNames
base_names None = []
base_names (Some b) = names_of b

names_from : (o : Option ObType) → names_in (chain_from o) ≡ base_names o
names_from None = refl
names_from (Some b) = refl

pub names_step : (t : ObType) → names_of t ≡ name_of t ∷ base_names (base_of t)
names_step t = ap names_in (chain_step t) ∙ ap (λ ns. name_of t ∷ ns) (names_from (base_of t))

abbrev pub base_level : ObType → Option ObType → Option ℕ
base_level to None = None
base_level to (Some b) = level_in to (chain b)

level_from : (to : ObType) (o : Option ObType) → level_in to (chain_from o) ≡ base_level to o
level_from to None = refl
level_from to (Some b) = refl

pub level_step : (to from : ObType) → level_in to (chain from) ≡ if same to from then Some 0 else option_map suc (base_level to (base_of from))
level_step to from = ap (level_in to) (chain_step from) ∙ ap (λ o. if same to from then Some 0 else option_map suc o) (level_from to (base_of from))
