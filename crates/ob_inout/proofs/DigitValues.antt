-- The value of decimal digits, from the front on.
use Rattle.std.proofs.Common.{◌≡◌, ℕ, ◌+◌, ◌-◌, ◌*◌, ◌<◌, ◌≤◌, Bool, true, false, ◌&&◌, nat_le, get_or, List, [], ◌∷◌, ◌++◌, length, take, drop, refl, sym, ap, ◌∙◌, arith}
use Rattle.std.specs.Char.{digit_value, is_ascii_digit}
use Rattle.std.proofs.lemmas.Bool.{leb-true}
use Rattle.std.proofs.lemmas.Int.Digits.{digits_value_more}
use Rattle.std.proofs.lemmas.Str.{digit_value_digit}
use Rattle.std.specs.Str.Parse.{digits_value, digits_value_after}
use Rattle.std.proofs.lemmas.List.{take-append-drop}

after_ge : (n : ℕ) (ds : List ℕ) → n ≤ digits_value_after 10 n ds
after_ge n [] = omega arith
after_ge n (c ∷ ds) = omega (arith, after_ge (n * 10 + digit_value c) ds)

after_append : (n : ℕ) (xs ys : List ℕ) → digits_value_after 10 n (xs ++ ys) ≡ digits_value_after 10 (digits_value_after 10 n xs) ys
after_append n [] ys = refl
after_append n (c ∷ xs) ys = after_append (n * 10 + digit_value c) xs ys

-- more digits make no smaller number
pub digits_value-take-le : (i : ℕ) (ds : List ℕ) → digits_value 10 (take i ds) ≤ digits_value 10 ds
digits_value-take-le i ds =
    let whole : digits_value 10 ds ≡ digits_value_after 10 (digits_value 10 (take i ds)) (drop i ds) = ap (digits_value 10) (sym (take-append-drop i ds)) ∙ after_append 0 (take i ds) (drop i ds) in
    omega (arith, whole, after_ge (digits_value 10 (take i ds)) (drop i ds))

and_true : (a b : Bool) → (a && b) ≡ true → (a ≡ true) × (b ≡ true)
and_true true true e = (refl, refl)
and_true true false e = absurd cc
and_true false b e = absurd cc

-- one digit more
pub digits_value_next : (ds : List ℕ) (i d : ℕ) → i < length ds → is_ascii_digit (get_or ds i 0) ≡ true → d ≡ get_or ds i 0 - 48
    → digits_value 10 (take (i + 1) ds) ≡ digits_value 10 (take i ds) * 10 + d
digits_value_next ds i d lt digit is =
    let range = and_true (nat_le 48 (get_or ds i 0)) (nat_le (get_or ds i 0) 57) digit in
    let low : 48 ≤ get_or ds i 0 = leb-true 48 (get_or ds i 0) range.0 in
    let high : get_or ds i 0 ≤ 57 = leb-true (get_or ds i 0) 57 range.1 in
    omega (arith, digits_value_more 10 ds i lt, digit_value_digit (get_or ds i 0) (low, high))
