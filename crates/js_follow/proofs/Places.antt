-- One place of a list, and a cut of it.
use Rattle.std.proofs.Common.{◌≡◌, ℕ, zero, suc, ◌<◌, List, [], ◌∷◌, ◌++◌, length, take, drop, get_or, Some, refl, sym, ap, arith}
use Rattle.std.specs.Prelude.{slice_get, slice_set}

-- the item that was found at a place
pub get_there : {X : Type 0} (xs : List X) (i : ℕ) (x : X) → i < length xs → x ≡ get_or xs i x → slice_get xs i ≡ Some x
get_there [] i x lt e = absurd (omega arith)
get_there (y ∷ ys) zero x lt e = ap (λ z. Some z) (sym e)
get_there (y ∷ ys) (suc i) x lt e = get_there ys i x (omega arith) e

-- the item that was put in a place
pub set_there : {X : Type 0} (xs : List X) (i : ℕ) (x : X) → i < length xs → slice_get (slice_set xs i x) i ≡ Some x
set_there [] i x lt = absurd (omega arith)
set_there (y ∷ ys) zero x lt = refl
set_there (y ∷ ys) (suc i) x lt = set_there ys i x (omega arith)

pub cut : {X : Type 0} (n : ℕ) (xs : List X) → take n xs ++ drop n xs ≡ xs
cut zero xs = refl
cut (suc n) [] = refl
cut (suc n) (x ∷ xs) = ap (λ r. x ∷ r) (cut n xs)

-- what was found at a place is what stands there
pub same_there : {X : Type 0} (xs : List X) (i : ℕ) (x y : X) → i < length xs → y ≡ get_or xs i y → slice_get xs i ≡ Some x → y ≡ x
same_there xs i x y lt e h = let found = get_there xs i y lt e in cc
