-- The tokens of a text as a function of it. It finds the list that the relation Tokens speaks of, where there is one.
use Rattle.std.specs.Prelude.{ℕ, zero, suc, ◌+◌, ◌^◌, Bool, ◌&&◌, nat_le, nat_lt, if◌then◌else◌, List, [], ◌∷◌, length, drop, Option, Some, None, pos}
use Rattle.std.specs.Option.{option_map}
use Rattle.std.specs.List.{list_all}
use Rattle.std.specs.Char.{is_ascii_digit}
use Rattle.ob_scan.specs.declared.class.Alphabet.TheVariants as alphabets
use Rattle.ob_scan.specs.declared.class.Class.{Class}
use Rattle.ob_scan.specs.declared.class.Class.TheVariants as classes
use Rattle.ob_scan.specs.declared.class.Suffix.{Suffix}
use Rattle.ob_scan.specs.declared.class.Suffix.TheVariants as suffixes
use Rattle.ob_scan.specs.declared.place.Place.{Place}
use Rattle.ob_scan.specs.declared.token.Kind.{Kind}
use Rattle.ob_scan.specs.declared.token.Kind.TheVariants as kinds
use Rattle.ob_scan.specs.declared.token.Symbol.{Symbol}
use Rattle.ob_scan.specs.declared.token.Token.{Token}
use Rattle.ob_scan.specs.Gap.{begins_blank, opens}
use Rattle.ob_scan.specs.GapReading.{comment_end}
use Rattle.ob_scan.specs.Places.{past, start_of_text, span_from}
use Rattle.ob_scan.specs.Spelling.{symbol_of, front_symbol}
use Rattle.ob_scan.specs.Tokens.{has, value_of, wrapped, one_period, suffix_of, next_char, begins_quote, class_at}

-- what stands in front of a text, and the text after it
pub record Front : Type 0 where
  pub kind : Kind
  pub rest : List ℕ

-- ---- the longest run

abbrev pub run_of : (ℕ → Bool) → List ℕ → List ℕ
run_of test [] = []
run_of test (c ∷ cs) = if test c then c ∷ run_of test cs else []

abbrev pub behind_run : (ℕ → Bool) → List ℕ → List ℕ
behind_run test [] = []
behind_run test (c ∷ cs) = if test c then behind_run test cs else c ∷ cs

-- ---- words: a reserved word, or a name of at most 64 characters

abbrev pub word_as : Option Symbol → List ℕ → List ℕ → Option Front
word_as (Some symbol) run rest = Some (record { kind = kinds.Symbol symbol; rest = rest })
word_as None run rest = if nat_le (length run) 64 then Some (record { kind = kinds.Ident run; rest = rest }) else None

abbrev pub word_of : List ℕ → Option Front
word_of text = let run = run_of (has alphabets.Word) text in
    word_as (symbol_of run) run (behind_run (has alphabets.Word) text)

-- ---- numbers: by the letter after the digits, and then not one period

abbrev pub number_end : Kind → List ℕ → Option Front
number_end kind rest = if one_period rest then None else Some (record { kind = kind; rest = rest })

abbrev pub number_as : Suffix → List ℕ → List ℕ → Option Front
number_as suffixes.Plain run middle =
    if list_all is_ascii_digit run && nat_lt (value_of 10 run) (2 ^ 31) then number_end (kinds.Integer (pos (value_of 10 run))) middle else None
number_as suffixes.Hexadecimal run middle =
    if nat_lt (value_of 16 run) (2 ^ 32) then number_end (kinds.Integer (wrapped (value_of 16 run))) (drop 1 middle) else None
number_as suffixes.Character run middle =
    if nat_lt (value_of 16 run) 256 then number_end (kinds.Text (value_of 16 run ∷ [])) (drop 1 middle) else None

abbrev pub number_of : List ℕ → Option Front
number_of text = let middle = behind_run (has alphabets.Number) text in
    number_as (suffix_of middle) (run_of (has alphabets.Number) text) middle

-- ---- strings: characters up to the closing quote, at most that many

pub record Characters : Type 0 where
  pub chars : List ℕ
  pub rest : List ℕ

abbrev pub with_char : ℕ → Option Characters → Option Characters
with_char c None = None
with_char c (Some more) = Some (record { chars = c ∷ more.chars; rest = more.rest })

abbrev pub char_then : (List ℕ → Option Characters) → Option (ℕ × List ℕ) → Option Characters
char_then others None = None
char_then others (Some found) = with_char found.0 (others found.1)

abbrev pub quoted_of : ℕ → List ℕ → Option Characters
quoted_of zero text = None
quoted_of (suc n) text =
    if begins_quote text then Some (record { chars = []; rest = drop 1 text }) else char_then (quoted_of n) (next_char text)

abbrev pub string_of : List ℕ → Option Front
string_of text = option_map (λ (s : Characters). record { kind = kinds.Text s.chars; rest = s.rest }) (quoted_of (length text) (drop 1 text))

-- ---- signs: of two characters, or else of one

abbrev pub sign_as : Option Symbol → List ℕ → Option Front → Option Front
sign_as None rest otherwise = otherwise
sign_as (Some symbol) rest otherwise = Some (record { kind = kinds.Symbol symbol; rest = rest })

abbrev pub sign_of : List ℕ → Option Front
sign_of text = sign_as (front_symbol 2 text) (drop 2 text) (sign_as (front_symbol 1 text) (drop 1 text) None)

-- ---- the token in front of a text, by its first character

abbrev pub front_as : Option Class → List ℕ → Option Front
front_as None text = None
front_as (Some classes.Letter) text = word_of text
front_as (Some classes.Digit) text = number_of text
front_as (Some classes.Quote) text = string_of text
front_as (Some classes.Other) text = sign_of text

unfoldable pub front_of : List ℕ → Option Front
front_of text = front_as (class_at text) text

-- ---- the text after blanks and comments, at most that many, up to a comment that does not end

abbrev pub comment_then : (List ℕ → List ℕ) → List ℕ → Option (List ℕ) → List ℕ
comment_then others text None = text
comment_then others text (Some rest) = others rest

unfoldable pub gap_end : ℕ → List ℕ → List ℕ
gap_end zero text = text
gap_end (suc n) text =
    if begins_blank text then gap_end n (drop 1 text)
    else (if opens text then comment_then (gap_end n) text (comment_end 0 (drop 2 text)) else text)

-- ---- all tokens: each after the longest gap, at most that many

abbrev pub token_then : (Place → List ℕ → Option (List Token)) → Place → List ℕ → Option Front → Option (List Token)
token_then others p middle None = None
token_then others p middle (Some front) = let q = past p middle front.rest in
    option_map (λ tokens. record { kind = front.kind; span = span_from p q } ∷ tokens) (others q front.rest)

-- from a place on where no blank stands
abbrev pub tokens_at : (Place → List ℕ → Option (List Token)) → Place → List ℕ → Option (List Token)
tokens_at others p [] = Some []
tokens_at others p (c ∷ cs) = if opens (c ∷ cs) then None else token_then others p (c ∷ cs) (front_of (c ∷ cs))

unfoldable pub tokens_from : ℕ → Place → List ℕ → Option (List Token)
tokens_from zero p text = None
tokens_from (suc n) p text = let middle = gap_end (length text) text in
    tokens_at (tokens_from n) (past p text middle) middle

-- the tokens of a text, where it has any
unfoldable pub tokens_of : List ℕ → Option (List Token)
tokens_of text = tokens_from (length text + 1) start_of_text text
