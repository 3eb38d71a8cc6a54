-- A string compared with itself.
use Rattle.std.proofs.Common.{◌≡◌, ℕ, Bool, true, false, List, [], ◌∷◌, refl, sym, ap, ◌∙◌, arith}
use Rattle.std.specs.Prelude.{◌==◌, ◌&&◌, ◌||◌, nat_lt}
use Rattle.std.specs.Str.{bytes_eq}
use Rattle.std.proofs.lemmas.Slice.Eq.{bytes_eq-Decides}
use Rattle.std.proofs.lemmas.Bool.Decides.{nat_tests}
use Rattle.ob_mean.specs.declared.operator.Relation.{Relation}
use Rattle.ob_mean.specs.Arithmetic.{holds, texts_relate}
use Rattle.ob_mean.specs.Texts.{before_zero, is_before}

head_same : (x : ℕ) (rest : Bool) → rest ≡ false → (nat_lt x x || ((x == x) && rest)) ≡ false
head_same x rest e = grind (arith, nat_tests)

not_before : (xs : List ℕ) → is_before xs xs ≡ false
not_before [] = refl
not_before (x ∷ xs) = head_same x (is_before xs xs) (not_before xs)

-- it is equal to itself, and not before itself
pub same_text : (r : Relation) (s t : List ℕ) → s ≡ t → holds r true false ≡ texts_relate r (before_zero s) (before_zero t)
same_text r s t e =
    let b = before_zero s in
    let equal : bytes_eq b b ≡ true = (bytes_eq-Decides b b).1 refl in
    ap (λ x. holds r x false) (sym equal) ∙ ap (holds r (bytes_eq b b)) (sym (not_before b)) ∙ ap (λ u. texts_relate r b (before_zero u)) e
