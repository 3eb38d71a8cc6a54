-- A line end after a JSON text changes none of its tokens.
use Rattle.std.proofs.Common.{◌≡◌, ℕ, ◌+◌, ◌-◌, ◌≤◌, ◌==◌, List, [], ◌∷◌, ◌++◌, length, take, drop, Bool, true, false, cond, ◌&&◌, ◌||◌, nat_lt, nat_eq, Option, Some, None, option_map, option_and_then, refl, ap, ap₂, ◌∙◌, arith}
use Rattle.std.proofs.lemmas.List.{length-append, take-append-le, drop-append-le}
use Rattle.std.specs.List.{prefix_len, starts_with, list_any}
use Rattle.std.specs.Char.{is_ascii_digit, encode_utf8}
use Rattle.json.specs.Token.{number, boolean, null, bad}
use Rattle.json.specs.Text.{code_unit, short_escape, is_high_surrogate, is_low_surrogate, surrogate_pair, Within, plain, after_backslash, after_u, after_high, prepend, content}
use Rattle.json.specs.Word.{ends_word, after_digits, after_minus, after_sign, after_whole, after_fraction, after_exponent, after_number, number_before, literal, word}
use Rattle.json.specs.Ascii as ascii
use Rattle.json.specs.Lex.{Lexeme, token, Class, quote, backslash, operator, space, other, class, operator_lexeme, string_token, Mode, between, in_word, in_string, in_escape, lex_byte, lex, fresh, punctuate}
use Rattle.json.specs.Json as json
use Rattle.serde_json.specs.Read.{of_json, max_depth, read}
use Rattle.json_form.specs.Forms.{token_is_float, text_has_float}

abbrev line_end : List ℕ
line_end = 10 ∷ []

-- ---- in a string

no_digits : (t : Bool) (o : Option ℕ) → cond (t && false) o None ≡ None
no_digits true o = refl
no_digits false o = refl

no_unit : (a b c : ℕ) → code_unit a b c 10 ≡ None
unfolding code_unit
no_unit a b c = no_digits _ _

then_none : (o : Option ℕ) (f : ℕ → Option (List ℕ)) → o ≡ None → option_and_then f o ≡ None
then_none o f e = ap (option_and_then f) e

then_same : (o : Option ℕ) (f g : ℕ → Option (List ℕ)) → ((u : ℕ) → f u ≡ g u) → option_and_then f o ≡ option_and_then g o
then_same None f g h = refl
then_same (Some u) f g h = h u

cond_none : (b : Bool) (o : Option (List ℕ)) → o ≡ None → cond b o None ≡ None
cond_none true o e = e
cond_none false o e = refl

content-end : (w : Within) (xs : List ℕ) → content w (xs ++ line_end) ≡ content w xs
unfolding content short_escape
content-end plain [] = refl
content-end plain (x ∷ xs) =
    ap₂ (λ a b. cond (x == 34) (Some []) (cond (x == 92) a (cond (nat_lt x 32) None (prepend (x ∷ []) b)))) (content-end after_backslash xs) (content-end plain xs)
content-end after_backslash [] = refl
content-end after_backslash (x ∷ xs) = ap₂ (λ a b. cond (x == 117) a (option_and_then (λ c. prepend (c ∷ []) b) (short_escape x))) (content-end after_u xs) (content-end plain xs)
content-end after_u [] = refl
content-end after_u (a ∷ []) = refl
content-end after_u (a ∷ b ∷ []) = refl
content-end after_u (a ∷ b ∷ c ∷ []) = then_none (code_unit a b c 10) _ (no_unit a b c)
content-end after_u (a ∷ b ∷ c ∷ d ∷ xs) =
    then_same (code_unit a b c d) _ _
    (λ u. ap₂ (λ x y. cond (is_high_surrogate u) x (cond (is_low_surrogate u) None (prepend (encode_utf8 u) y))) (content-end (after_high u) xs) (content-end plain xs))
content-end (after_high h) [] = refl
content-end (after_high h) (s ∷ []) = refl
content-end (after_high h) (s ∷ u ∷ []) = refl
content-end (after_high h) (s ∷ u ∷ a ∷ []) = refl
content-end (after_high h) (s ∷ u ∷ a ∷ b ∷ []) = refl
content-end (after_high h) (s ∷ u ∷ a ∷ b ∷ c ∷ []) = cond_none ((s == 92) && (u == 117)) _ (then_none (code_unit a b c 10) _ (no_unit a b c))
content-end (after_high h) (s ∷ u ∷ a ∷ b ∷ c ∷ d ∷ xs) =
    ap (λ o. cond ((s == 92) && (u == 117)) o None)
    (then_same (code_unit a b c d) _ _ (λ l. ap (λ y. cond (is_low_surrogate l) (prepend (encode_utf8 (surrogate_pair h l)) y) None) (content-end plain xs)))

-- ---- in a word

ends_word-end : (t : List ℕ) → ends_word (t ++ line_end) ≡ ends_word t
ends_word-end [] = refl
ends_word-end (x ∷ xs) = refl

true-end : (x : ℕ) (xs : List ℕ) → literal ascii.true_text (boolean true) (x ∷ (xs ++ line_end)) ≡ literal ascii.true_text (boolean true) (x ∷ xs)
true-end x [] = refl
true-end x (a ∷ []) = refl
true-end x (a ∷ b ∷ []) = refl
true-end x (a ∷ b ∷ c ∷ xs) = ap (λ e. cond (starts_with nat_eq (x ∷ a ∷ b ∷ c ∷ xs) ascii.true_text && e) (boolean true) bad) (ends_word-end xs)

null-end : (x : ℕ) (xs : List ℕ) → literal ascii.null_text null (x ∷ (xs ++ line_end)) ≡ literal ascii.null_text null (x ∷ xs)
null-end x [] = refl
null-end x (a ∷ []) = refl
null-end x (a ∷ b ∷ []) = refl
null-end x (a ∷ b ∷ c ∷ xs) = ap (λ e. cond (starts_with nat_eq (x ∷ a ∷ b ∷ c ∷ xs) ascii.null_text && e) null bad) (ends_word-end xs)

false-end : (x : ℕ) (xs : List ℕ) → literal ascii.false_text (boolean false) (x ∷ (xs ++ line_end)) ≡ literal ascii.false_text (boolean false) (x ∷ xs)
false-end x [] = refl
false-end x (a ∷ []) = refl
false-end x (a ∷ b ∷ []) = refl
false-end x (a ∷ b ∷ c ∷ []) = refl
false-end x (a ∷ b ∷ c ∷ d ∷ xs) = ap (λ e. cond (starts_with nat_eq (x ∷ a ∷ b ∷ c ∷ d ∷ xs) ascii.false_text && e) (boolean false) bad) (ends_word-end xs)

abbrev ended : Option (List ℕ) → Option (List ℕ)
ended o = option_map (λ r. r ++ line_end) o

cond_end : (b : Bool) (x y : List ℕ) → cond b (x ++ line_end) (y ++ line_end) ≡ cond b x y ++ line_end
cond_end true x y = refl
cond_end false x y = refl

cond_ended : (b : Bool) (x y p q : Option (List ℕ)) → p ≡ ended x → q ≡ ended y → cond b p q ≡ ended (cond b x y)
cond_ended true x y p q e f = e
cond_ended false x y p q e f = f

digits-end : (t : List ℕ) → prefix_len is_ascii_digit (t ++ line_end) ≡ prefix_len is_ascii_digit t
digits-end [] = refl
digits-end (x ∷ xs) = ap (λ n. cond (is_ascii_digit x) (1 + n) 0) (digits-end xs)

cond_le : (b : Bool) (n m : ℕ) → n ≤ m → cond b (1 + n) 0 ≤ m + 1
cond_le true n m h = omega arith
cond_le false n m h = omega arith

digits_le : (t : List ℕ) → prefix_len is_ascii_digit t ≤ length t
digits_le [] = omega arith
digits_le (x ∷ xs) = let rest = cond_le (is_ascii_digit x) (prefix_len is_ascii_digit xs) (length xs) (digits_le xs) in omega arith

drop-end : (n : ℕ) (t : List ℕ) → n ≤ length t → drop n (t ++ line_end) ≡ drop n t ++ line_end
drop-end n t h = drop-append-le n t line_end h

after_digits-end : (t : List ℕ) → after_digits (t ++ line_end) ≡ ended (after_digits t)
after_digits-end t =
    ap (λ n. cond (n == 0) None (Some (drop n (t ++ line_end)))) (digits-end t)
    ∙ cond_ended (prefix_len is_ascii_digit t == 0) None (Some (drop (prefix_len is_ascii_digit t) t)) None _ refl (ap Some (drop-end (prefix_len is_ascii_digit t) t (digits_le t)))

after_minus-end : (t : List ℕ) → after_minus (t ++ line_end) ≡ after_minus t ++ line_end
after_minus-end [] = refl
after_minus-end (x ∷ xs) = cond_end (x == 45) xs (x ∷ xs)

after_sign-end : (t : List ℕ) → after_sign (t ++ line_end) ≡ after_sign t ++ line_end
after_sign-end [] = refl
after_sign-end (x ∷ xs) = cond_end ((x == 45) || (x == 43)) xs (x ∷ xs)

after_whole-end : (t : List ℕ) → after_whole (t ++ line_end) ≡ ended (after_whole t)
after_whole-end [] = refl
after_whole-end (x ∷ xs) = cond_ended (x == 48) (Some xs) (after_digits (x ∷ xs)) _ _ refl (after_digits-end (x ∷ xs))

after_fraction-end : (t : List ℕ) → after_fraction (t ++ line_end) ≡ ended (after_fraction t)
after_fraction-end [] = refl
after_fraction-end (x ∷ xs) = cond_ended (x == 46) (after_digits xs) (Some (x ∷ xs)) _ _ (after_digits-end xs) refl

after_exponent-end : (t : List ℕ) → after_exponent (t ++ line_end) ≡ ended (after_exponent t)
after_exponent-end [] = refl
after_exponent-end (x ∷ xs) =
    cond_ended ((x == 101) || (x == 69)) (after_digits (after_sign xs)) (Some (x ∷ xs)) _ _ (ap after_digits (after_sign-end xs) ∙ after_digits-end (after_sign xs)) refl

then_ended : (f : List ℕ → Option (List ℕ)) → ((t : List ℕ) → f (t ++ line_end) ≡ ended (f t)) → (o : Option (List ℕ)) → option_and_then f (ended o) ≡ ended (option_and_then f o)
then_ended f h None = refl
then_ended f h (Some t) = h t

after_number-end : (t : List ℕ) → after_number (t ++ line_end) ≡ ended (after_number t)
unfolding after_number
after_number-end t =
    ap (λ o. option_and_then after_exponent (option_and_then after_fraction o)) (ap after_whole (after_minus-end t) ∙ after_whole-end (after_minus t))
    ∙ ap (option_and_then after_exponent) (then_ended after_fraction after_fraction-end (after_whole (after_minus t)))
    ∙ then_ended after_exponent after_exponent-end (option_and_then after_fraction (after_whole (after_minus t)))

taken-end : (t r : List ℕ) → take (length (t ++ line_end) - length (r ++ line_end)) (t ++ line_end) ≡ take (length t - length r) t
taken-end t r =
    let same : length (t ++ line_end) - length (r ++ line_end) ≡ length t - length r = omega (arith, length-append t line_end, length-append r line_end) in
    let within : length t - length r ≤ length t = omega arith in
    ap (λ n. take n (t ++ line_end)) same ∙ rw take-append-le refl

number_before-end : (t : List ℕ) (o : Option (List ℕ)) → number_before (t ++ line_end) (ended o) ≡ number_before t o
number_before-end t None = refl
number_before-end t (Some r) = ap₂ (λ e s. cond e (number s) bad) (ends_word-end r) (taken-end t r)

number-end : (t : List ℕ) → number_before (t ++ line_end) (after_number (t ++ line_end)) ≡ number_before t (after_number t)
number-end t = ap (number_before (t ++ line_end)) (after_number-end t) ∙ number_before-end t (after_number t)

word-end : (x : ℕ) (xs : List ℕ) → word (x ∷ (xs ++ line_end)) ≡ word (x ∷ xs)
unfolding word
word-end x xs =
    (λ i. cond (x == 116) (true-end x xs i) (cond (x == 102) (false-end x xs i) (cond (x == 110) (null-end x xs i) (number-end (x ∷ xs) i))))

-- ---- the whole text

byte-end : (m : Mode) (c : Class) (x : ℕ) (xs : List ℕ) (k l : Mode → List Lexeme) → ((n : Mode) → k n ≡ l n) → lex_byte m c x (xs ++ line_end) k ≡ lex_byte m c x xs l
byte-end between quote x xs k l h = ap₂ (λ s r. token (string_token s) ∷ r) (content-end plain xs) (h in_string)
byte-end between backslash x xs k l h = ap (λ r. token bad ∷ r) (h in_word)
byte-end between operator x xs k l h = ap (λ r. operator_lexeme x ∷ r) (h between)
byte-end between space x xs k l h = h between
byte-end between other x xs k l h = ap₂ (λ w r. token w ∷ r) (word-end x xs) (h in_word)
byte-end in_word quote x xs k l h = h in_word
byte-end in_word backslash x xs k l h = h in_word
byte-end in_word operator x xs k l h = ap (λ r. operator_lexeme x ∷ r) (h between)
byte-end in_word space x xs k l h = h between
byte-end in_word other x xs k l h = h in_word
byte-end in_string quote x xs k l h = h between
byte-end in_string backslash x xs k l h = h in_escape
byte-end in_string operator x xs k l h = h in_string
byte-end in_string space x xs k l h = h in_string
byte-end in_string other x xs k l h = h in_string
byte-end in_escape c x xs k l h = h in_string

lex-end : (m : Mode) (xs : List ℕ) → lex m (xs ++ line_end) ≡ lex m xs
unfolding lex
lex-end between [] = refl
lex-end in_word [] = refl
lex-end in_string [] = refl
lex-end in_escape [] = refl
lex-end m (x ∷ xs) = byte-end m (class x) x xs (λ n. lex n (xs ++ line_end)) (λ n. lex n xs) (λ n. lex-end n xs)

pub read-end : (text : List ℕ) → read (text ++ 10 ∷ []) ≡ read text
read-end text = ap (λ ts. option_and_then of_json (option_and_then (λ p. json.if_last p.0 p.1) (json.value max_depth (punctuate fresh ts)))) (lex-end between text)

pub float-end : (text : List ℕ) → text_has_float (text ++ 10 ∷ []) ≡ text_has_float text
unfolding text_has_float
float-end text = ap (λ ts. list_any token_is_float (punctuate fresh ts)) (lex-end between text)
