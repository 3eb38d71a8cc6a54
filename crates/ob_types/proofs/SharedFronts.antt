-- How many characters two names begin with in common, once it is seen where they end or differ.
use Rattle.std.proofs.Common.{◌≡◌, ◌<◌, ◌≤◌, ◌⊎◌, inl, inr, ℕ, zero, suc, Bool, true, false, ◌==◌, nat_lt, ltb-true, ltb-false, min, List, [], ◌∷◌, length, take, drop, ◌-◌, get_or, refl, ap, sym, ◌∙◌, arith}
use Rattle.std.specs.Prelude.{if◌then◌else◌}
use Rattle.std.proofs.lemmas.Bool.{eq-eqb, ne_eqb}
use Rattle.ob_types.specs.Spelling.{shared}

-- they are the same below a number
abbrev pub SameBelow : ℕ → List ℕ → List ℕ → Type 0
SameBelow c xs ys = (k : ℕ) → k < c → get_or xs k 0 ≡ get_or ys k 0

-- and there is no more to compare, or there they differ
abbrev pub Ends : ℕ → ℕ → List ℕ → List ℕ → Type 0
Ends n c xs ys = (c ≡ n) ⊎ (c ≡ length xs) ⊎ (c ≡ length ys) ⊎ (get_or xs c 0 ≡ get_or ys c 0 → ⊥)

lower : (n c : ℕ) (x y : ℕ) (xs ys : List ℕ) → Ends (suc n) (suc c) (x ∷ xs) (y ∷ ys) → Ends n c xs ys
lower n c x y xs ys (inl e) = inl (omega (arith, e))
lower n c x y xs ys (inr (inl e)) = inr (inl (omega (arith, e)))
lower n c x y xs ys (inr (inr (inl e))) = inr (inr (inl (omega (arith, e))))
lower n c x y xs ys (inr (inr (inr d))) = inr (inr (inr d))

first_apart : (n x y : ℕ) (xs ys : List ℕ) → Ends (suc n) zero (x ∷ xs) (y ∷ ys) → (x == y) ≡ false
first_apart n x y xs ys (inl e) = absurd (omega (arith, e))
first_apart n x y xs ys (inr (inl e)) = absurd (omega (arith, e))
first_apart n x y xs ys (inr (inr (inl e))) = absurd (omega (arith, e))
first_apart n x y xs ys (inr (inr (inr d))) = ne_eqb x y d

pub shared_is : (n c : ℕ) (xs ys : List ℕ) → c ≤ n → c ≤ length xs → c ≤ length ys → SameBelow c xs ys → Ends n c xs ys → c ≡ shared n xs ys
shared_is zero c xs ys l lx ly h e = omega (arith, l)
shared_is (suc n) c [] ys l lx ly h e = omega (arith, lx)
shared_is (suc n) c (x ∷ xs) [] l lx ly h e = omega (arith, ly)
shared_is (suc n) zero (x ∷ xs) (y ∷ ys) l lx ly h e =
    sym (ap (λ b. if b then suc (shared n xs ys) else zero) (first_apart n x y xs ys e))
shared_is (suc n) (suc c) (x ∷ xs) (y ∷ ys) l lx ly h e =
    let one : x ≡ y = h zero (omega arith) in
    let same : (x == y) ≡ true = eq-eqb x y one in
    let rest = shared_is n c xs ys (omega (arith, l)) (omega (arith, lx)) (omega (arith, ly)) (λ k lt. h (suc k) (omega (arith, lt))) (lower n c x y xs ys e) in
    ap suc rest ∙ sym (ap (λ b. if b then suc (shared n xs ys) else zero) same)

most_by : (n m p q : ℕ) (b c : Bool) → nat_lt m n ≡ b → nat_lt m p ≡ c → m ≡ min (min p q) n → (m ≡ n) ⊎ (m ≡ p) ⊎ (m ≡ q)
most_by n m p q false c f g e = inl (omega (arith, e, ltb-false m n f))
most_by n m p q true false f g e = inr (inl (omega (arith, e, ltb-false m p g)))
most_by n m p q true true f g e = inr (inr (omega (arith, e, ltb-true m n f, ltb-true m p g)))

by_most : (n m p q : ℕ) → m ≡ min (min p q) n → (m ≡ n) ⊎ (m ≡ p) ⊎ (m ≡ q)
by_most n m p q e = most_by n m p q (nat_lt m n) (nat_lt m p) refl refl e

pub whole : (n m : ℕ) (xs ys : List ℕ) → m ≡ min (min (length xs) (length ys)) n → SameBelow m xs ys → m ≡ shared n xs ys
whole n m xs ys e h =
    shared_is n m xs ys (omega (arith, e)) (omega (arith, e)) (omega (arith, e)) h
    (elim (by_most n m (length xs) (length ys) e) as (λ _. Ends n m xs ys) [
      | inl a ↦ inl a
      | inr (inl a) ↦ inr (inl a)
      | inr (inr a) ↦ inr (inr (inl a))
    ])

-- ---- the rest of a name

taken : (xs : List ℕ) (m : ℕ) → length xs ≤ m → take m xs ≡ xs
taken [] zero le = refl
taken [] (suc m) le = refl
taken (x ∷ xs) zero le = absurd (omega (arith, le))
taken (x ∷ xs) (suc m) le = ap (λ l. x ∷ l) (taken xs m (omega (arith, le)))

left : (xs : List ℕ) (n : ℕ) → length (drop n xs) ≤ length xs - n
left [] zero = omega arith
left [] (suc n) = omega arith
left (x ∷ xs) zero = omega arith
left (x ∷ xs) (suc n) = let k = left xs n in omega (arith, k)

pub rest_whole : (xs : List ℕ) (n : ℕ) → take (length xs - n) (drop n xs) ≡ drop n xs
rest_whole xs n = taken (drop n xs) (length xs - n) (left xs n)
