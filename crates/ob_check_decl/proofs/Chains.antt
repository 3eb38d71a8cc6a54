-- The names of the fields of an extension and its bases.
use Rattle.std.proofs.Common.{◌≡◌, ℕ, List, [], ◌++◌, Option, Some, None, Result, Ok, Err, IfOk, refl, sym, ap, ◌∙◌, append_assoc, append-nil}
use Rattle.ob_types.specs.declared.structure.ObType.{ObType, out-ObType}
use Rattle.ob_types.specs.Types.{chain, base_of}
use Rattle.ob_types.proofs.Equations.{chain_from, chain_step}
use Rattle.ob_check_decl.specs.WrittenTypes.{names_layer, names_along}

abbrev names_from : Option ObType → List (List ℕ)
names_from None = []
names_from (Some b) = names_along (chain b)

from_base : (o : Option ObType) → names_along (chain_from o) ≡ names_from o
from_base None = refl
from_base (Some b) = refl

names_step : (t : ObType) → names_along (chain t) ≡ names_layer (out-ObType t) ++ names_from (base_of t)
names_step t = ap names_along (chain_step t) ∙ ap (λ l. names_layer (out-ObType t) ++ l) (from_base (base_of t))

-- the names of a record and of its base, put behind others
names_by : (t : ObType) (o : Option ObType) (first so_far : List (List ℕ)) → base_of t ≡ o → so_far ≡ first ++ names_layer (out-ObType t) → so_far ++ names_from o ≡ first ++ names_along (chain t)
names_by t o first so_far e s =
    ap (λ l. l ++ names_from o) s
    ∙ append_assoc first (names_layer (out-ObType t)) (names_from o)
    ∙ ap (λ l. first ++ l) (sym (names_step t ∙ ap (λ x. names_layer (out-ObType t) ++ names_from x) e))

pub names_alone : (t : ObType) (first so_far : List (List ℕ)) → base_of t ≡ None → so_far ≡ first ++ names_layer (out-ObType t) → so_far ≡ first ++ names_along (chain t)
names_alone t first so_far e s = sym (append-nil so_far) ∙ names_by t None first so_far e s

pub names_with_base : {E : Type 0} (r : Result (List (List ℕ)) E) (t b : ObType) (first so_far : List (List ℕ)) → base_of t ≡ Some b → so_far ≡ first ++ names_layer (out-ObType t)
    → IfOk r (λ names. names ≡ so_far ++ names_along (chain b)) → IfOk r (λ names. names ≡ first ++ names_along (chain t))
names_with_base (Ok names) t b first so_far e s h = h ∙ names_by t (Some b) first so_far e s
names_with_base (Err x) t b first so_far e s h = tt
