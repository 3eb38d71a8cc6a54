-- The places of fields.
use Rattle.std.proofs.Common.{◌≡◌, ℕ, zero, suc, ◌+◌, cond, List, [], ◌∷◌, drop, Some, None, slice_get, ap}
use Rattle.std.specs.Str.{bytes_eq}
use Rattle.ob_types.specs.declared.structure.Field.{Field}
use Rattle.ob_types.specs.Forms.{place_from}

some_field : (f g : Field) → Some f ≡ Some g → f ≡ g
some_field f g e = cc

-- one field more in front
pub one_before : (fs : List Field) (i k : ℕ) (f : Field) (name : List ℕ) → slice_get fs i ≡ Some f → place_from k (drop i fs) name ≡ cond (bytes_eq f.name name) (Some k) (place_from (k + 1) (drop (suc i) fs) name)
one_before [] i k f name e = absurd (let n : None ≡ Some f = e in cc)
one_before (g ∷ fs) zero k f name e = ap (λ x. cond (bytes_eq x.name name) (Some k) (place_from (k + 1) fs name)) (some_field g f e)
one_before (g ∷ fs) (suc i) k f name e = one_before fs i k f name e
