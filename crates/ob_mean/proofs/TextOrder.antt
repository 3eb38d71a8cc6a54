-- The end of the shorter of two texts.
use Rattle.std.proofs.Common.{◌≡◌, ℕ, ◌-◌, ◌≤◌, false, ltb, List, [], ◌∷◌, length, drop, refl, ap, ◌∙◌, sym, arith, length-drop}
use Rattle.std.proofs.lemmas.Bool.Decides.{nat_tests}
use Rattle.ob_mean.specs.Texts.{is_before}

nothing_left : (zs : List ℕ) → length zs ≡ 0 → zs ≡ []
nothing_left [] e = refl
nothing_left (z ∷ zs) e = absurd (omega (arith, e))

none_before : (zs : List ℕ) → is_before zs [] ≡ false
none_before [] = refl
none_before (z ∷ zs) = refl

before_more : (zs : List ℕ) → is_before [] zs ≡ ltb 0 (length zs)
before_more [] = refl
before_more (z ∷ zs) = grind (arith, nat_tests)

same_test : (i n : ℕ) → ltb i n ≡ ltb 0 (n - i)
same_test i n = grind (arith, nat_tests)

at_length : (xs : List ℕ) (i : ℕ) → i ≡ length xs → drop i xs ≡ []
at_length xs i e = nothing_left (drop i xs) (omega (arith, length-drop i xs))

-- where the first has ended, it is before a longer one
pub first_ended : (xs ys : List ℕ) (i : ℕ) → i ≡ length xs → ltb i (length ys) ≡ is_before (drop i xs) (drop i ys)
first_ended xs ys i e =
    same_test i (length ys)
    ∙ ap (ltb 0) (sym (length-drop i ys))
    ∙ sym (ap (λ l. is_before l (drop i ys)) (at_length xs i e) ∙ before_more (drop i ys))

test_fails : (i n : ℕ) → n ≤ i → ltb i n ≡ false
test_fails i n l = grind (arith, nat_tests)

-- where the second has ended, the first isn't before it
pub second_ended : (xs ys : List ℕ) (i : ℕ) → i ≡ length ys → length ys ≤ i → ltb i (length ys) ≡ is_before (drop i xs) (drop i ys)
second_ended xs ys i e l =
    test_fails i (length ys) l
    ∙ sym (ap (is_before (drop i xs)) (at_length ys i e) ∙ none_before (drop i xs))
