-- How each form of type is spelled, and with which record it ends.
use Rattle.std.proofs.Common.{◌≡◌, ℕ, ◌∷◌, ◌++◌, refl}
use Rattle.ob_types.specs.declared.structure.ObType.{ObType}
use Rattle.ob_types.specs.declared.structure.ObType.TheVariants.{Array, Open}
use Rattle.ob_types.specs.Spelling.{number_spelled, type_spelled, end_in}

pub array_spelled : (n : ℕ) (e : ObType) → type_spelled (Array n e) ≡ 4 ∷ number_spelled n ++ type_spelled e
unfolding Rattle.ob_types.specs.declared.structure.ObType.TheBlock.hidden-the_row-ObType-0 denote.Hole.Carrier.hidden
array_spelled n e = refl

pub open_spelled : (e : ObType) → type_spelled (Open e) ≡ 5 ∷ type_spelled e
unfolding Rattle.ob_types.specs.declared.structure.ObType.TheBlock.hidden-the_row-ObType-0 denote.Hole.Carrier.hidden
open_spelled e = refl

pub array_end : (n : ℕ) (e : ObType) → end_in (Array n e) ≡ end_in e
unfolding Rattle.ob_types.specs.declared.structure.ObType.TheBlock.hidden-the_row-ObType-0 denote.Hole.Carrier.hidden
array_end n e = refl

pub open_end : (e : ObType) → end_in (Open e) ≡ end_in e
unfolding Rattle.ob_types.specs.declared.structure.ObType.TheBlock.hidden-the_row-ObType-0 denote.Hole.Carrier.hidden
open_end e = refl
