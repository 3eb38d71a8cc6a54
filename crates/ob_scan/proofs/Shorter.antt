-- A token takes at least one character.
use Rattle.std.proofs.Common.{◌≡◌, ℕ, suc, ◌+◌, ◌<◌, ◌≤◌, Bool, true, false, cond, eqb, nat_le, ◌&&◌, ◌||◌, List, [], ◌∷◌, length, Option, Some, None, Result, Ok, Err, refl, sym, ap, subst, ◌∙◌, arith}
use Rattle.std.specs.Prelude.{IfOk}
use Rattle.std.specs.Int.{is_in_range}
use Rattle.std.specs.Char.{is_ascii_digit, is_ascii_alphabetic}
use Rattle.std.proofs.lemmas.List.{length-append, length-drop}
use Rattle.ob_scan.specs.declared.class.Alphabet.TheVariants as alphabets
use Rattle.ob_scan.specs.declared.class.Class.{Class}
use Rattle.ob_scan.specs.declared.class.Class.TheVariants as classes
use Rattle.ob_scan.specs.declared.class.Suffix.{Suffix}
use Rattle.ob_scan.specs.declared.class.Suffix.TheVariants as suffixes
use Rattle.ob_base.specs.declared.fault.Refused.{Refused}
use Rattle.ob_scan.specs.declared.found.Found.{Found}
use Rattle.ob_scan.specs.declared.token.Kind.{Kind}
use Rattle.ob_scan.specs.Exactly.{Exactly}
use Rattle.ob_scan.specs.Places.{is_continuation}
use Rattle.ob_scan.specs.Spelling.{spelling}
use Rattle.ob_scan.proofs.SignTokens.{spelled}
use Rattle.ob_scan.specs.Tokens.{IsRun, Stops, NumberKind, Quoted, closed, char, has, suffix_of, next_char, wide_char, is_plain, class_of, class_at, begins_letter, Stands, StandsAs}

-- ---- what the class says of the first character

abbrev class_by : Bool → Bool → Bool → Class
class_by a d q = cond a classes.Letter (cond d classes.Digit (cond q classes.Quote classes.Other))

letter_by : (a d q : Bool) → class_by a d q ≡ classes.Letter → a ≡ true
letter_by true d q e = refl
letter_by false true q e = absurd cc
letter_by false false true e = absurd cc
letter_by false false false e = absurd cc

digit_by : (a d q : Bool) → class_by a d q ≡ classes.Digit → d ≡ true
digit_by true d q e = absurd cc
digit_by false true q e = refl
digit_by false false true e = absurd cc
digit_by false false false e = absurd cc

other_by : (a d q : Bool) → class_by a d q ≡ classes.Other → a ≡ false
other_by true d q e = absurd cc
other_by false d q e = refl

some_class : (a b : Class) → Some a ≡ Some b → a ≡ b
some_class a b e = cc

pub no_letter : (text : List ℕ) → class_at text ≡ Some classes.Other → begins_letter text ≡ false
no_letter [] e = refl
no_letter (c ∷ cs) e = other_by (is_ascii_alphabetic c) (is_ascii_digit c) (eqb c 34) (some_class (class_of c) classes.Other e)

-- ---- runs that are not empty

true_not_false : (b : Bool) → b ≡ true → b ≡ false → ⊥
true_not_false b e f = let h : true ≡ false = sym e ∙ f in cc

run_shorter : (test : ℕ → Bool) (c : ℕ) (cs run rest : List ℕ) → test c ≡ true → IsRun test run (c ∷ cs) rest → length rest < length (c ∷ cs)
run_shorter test c cs [] rest e r = let k : test c ≡ false = subst (Stops test) (sym r.whole) r.stops in absurd (true_not_false (test c) e k)
run_shorter test c cs (y ∷ ys) rest e r = omega (arith, ap length r.whole, length-append (y ∷ ys) rest)

or_left : (a b : Bool) → a ≡ true → (a || b) ≡ true
or_left a b e = ap (λ x. x || b) e

or_later : (a b c : Bool) → (b || c) ≡ true → ((a || b) || c) ≡ true
or_later true b c e = refl
or_later false b c e = e

number_rest : (suffix : Suffix) (run middle : List ℕ) (k : Kind) (r : List ℕ) → NumberKind suffix run middle k r → length r ≤ length middle
number_rest suffixes.Plain run middle k r h = omega (arith, ap length h.1)
number_rest suffixes.Hexadecimal run middle k r h = omega (arith, ap length h.1, length-drop 1 middle)
number_rest suffixes.Character run middle k r h = omega (arith, ap length h.1, length-drop 1 middle)

-- ---- strings

abbrev Within : ℕ → Option (ℕ × List ℕ) → Type 0
Within n None = Unit {0}
Within n (Some p) = length p.1 ≤ n

cond_within : (b : Bool) (n : ℕ) (x y : Option (ℕ × List ℕ)) → Within n x → Within n y → Within n (cond b x y)
cond_within true n x y h k = h
cond_within false n x y h k = k

wide_within : (c : ℕ) (text : List ℕ) → Within (length text) (wide_char c text)
wide_within c [] = tt
wide_within c (d ∷ text) =
    let le : length text ≤ suc (length text) = omega arith in
    cond_within (is_continuation d) (suc (length text)) _ None (cond_within (eqb c 194) (suc (length text)) (Some (d, text)) _ le (cond_within (eqb c 195) (suc (length text)) (Some (d + 64, text)) None le tt)) tt

char_within : (c : ℕ) (text : List ℕ) → Within (length text) (next_char (c ∷ text))
char_within c text = cond_within (is_plain c) (length text) (Some (c, text)) (wide_char c text) (omega arith) (wide_within c text)

pub next_shorter : (text : List ℕ) (c : ℕ) (after : List ℕ) → next_char text ≡ Some (c, after) → length after < length text
next_shorter [] c after e = absurd cc
next_shorter (x ∷ text) c after e = let h : Within (length text) (Some (c, after)) = subst (Within (length text)) e (char_within x text) in omega arith

quoted_shorter : (text chars rest : List ℕ) → Quoted text chars rest → length rest < length text
quoted_shorter _ _ rest closed = omega arith
quoted_shorter text _ rest (char {c} {after} {chars} e q) = omega (arith, next_shorter text c after e, quoted_shorter after chars rest q)

-- ---- tokens

stands_by : (class : Class) (c : ℕ) (cs : List ℕ) (k : Kind) (r : List ℕ) → class_of c ≡ class → StandsAs (Some class) (c ∷ cs) k r → length r < length (c ∷ cs)
stands_by classes.Letter c cs k r e h =
    run_shorter (has alphabets.Word) c cs h.run r (or_later (is_ascii_digit c) (is_in_range 65 90 c) (is_in_range 97 122 c) (letter_by (is_ascii_alphabetic c) (is_ascii_digit c) (eqb c 34) e)) h.longest
stands_by classes.Digit c cs k r e h =
    let shorter = run_shorter (has alphabets.Number) c cs h.run h.middle (or_left (is_ascii_digit c) (nat_le 65 c && nat_le c 70) (digit_by (is_ascii_alphabetic c) (is_ascii_digit c) (eqb c 34) e)) h.longest in
    omega (arith, shorter, number_rest (suffix_of h.middle) h.run h.middle k r h.ends.0)
stands_by classes.Quote c cs k r e h = omega (arith, quoted_shorter cs h.chars r h.quoted)
stands_by classes.Other c cs k r e h = omega (arith, ap length h.whole, length-append (spelling h.symbol) r, spelled h.symbol)

pub stands_shorter : (text : List ℕ) (k : Kind) (r : List ℕ) → Stands text k r → length r < length text
stands_shorter [] k r h = absurd h
stands_shorter (c ∷ cs) k r h = stands_by (class_of c) c cs k r refl h

pub exactly_shorter : (text : List ℕ) (x : Result Found Refused) → Exactly (Stands text) x → IfOk x (λ found. length found.rest.now < length text)
exactly_shorter text (Ok found) h = stands_shorter text found.kind found.rest.now h.0
exactly_shorter text (Err r) h = tt
