-- To be believed.
-- The module In (after the Oakwood Guidelines, in this project's profile): what its readers find in lines.
use Rattle.std.specs.Prelude.{◌≡◌, ℕ, zero, suc, ◌^◌, Bool, true, false, ◌&&◌, not, ◌==◌, nat_le, nat_lt, if◌then◌else◌, List, [], ◌∷◌, ◌++◌, length, drop, map, Option, Some, None, ℤ, pos, negsuc}
use Rattle.std.specs.Char.{is_ascii_digit}
use Rattle.std.specs.List.{prefix_len, take_while}
use Rattle.std.specs.Str.{chars}
use Rattle.std.specs.Str.Parse.{digits_value}
use Rattle.ob_inout.specs.declared.answer.Answer.{Answer}
use Rattle.ob_inout.specs.declared.answer.Answer.TheVariants as answers

-- ---- lines and the buffer

-- a line: its text in UTF-8, or none to be had
abbrev pub Line : Type 0
Line = Option (List ℕ)

-- a character as a CHAR: `?` past U+00FF
abbrev pub char_of : ℕ → ℕ
char_of c = if nat_lt c 256 then c else 63

-- what a line puts into the buffer: its characters, and the end of the line
unfoldable pub line_of : List ℕ → List ℕ
line_of text = map char_of (chars text) ++ 10 ∷ []

-- In.Done, and the characters in the buffer
pub record Input : Type 0 where
  pub done : Bool
  pub left : List ℕ

-- at the start of a cell, and by In.Open
abbrev pub opened : Input
opened = record { done = true; left = [] }

-- ---- what stands at the front of the buffer, of which the first is no blank (but for a character)

-- what is read, and the characters after it
pub record Front (A : Type 0) : Type 0 where
  pub value : A
  pub rest : List ℕ

abbrev pub is_blank : ℕ → Bool
is_blank c = nat_le c 32

-- the characters between quotes
abbrev pub is_quoted : ℕ → Bool
is_quoted c = nat_le 32 c && not (c == 34)

-- the characters of a name
abbrev pub is_visible : ℕ → Bool
is_visible c = nat_lt 32 c

abbrev pub begins : ℕ → List ℕ → Bool
begins c [] = false
begins c (first ∷ chars) = first == c

abbrev pub char_at : List ℕ → Option (Front ℕ)
char_at [] = None
char_at (c ∷ chars) = Some (record { value = c; rest = chars })

-- an INTEGER: -2^31 to 2^31 - 1
abbrev pub is_integer : ℤ → Bool
is_integer (pos n) = nat_lt n (2 ^ 31)
is_integer (negsuc n) = nat_lt n (2 ^ 31)

abbrev pub minus : ℕ → ℤ
minus zero = pos zero
minus (suc n) = negsuc n

abbrev pub with_sign : Bool → ℕ → ℤ
with_sign negative n = if negative then minus n else pos n

-- decimal digits, at least one and as many as follow, in range with the sign
abbrev pub digits_at : Bool → List ℕ → Option (Front ℤ)
digits_at negative chars = let digits = take_while is_ascii_digit chars in
    let value = with_sign negative (digits_value 10 digits) in
    if nat_lt 0 (length digits) && is_integer value then Some (record { value = value; rest = drop (length digits) chars }) else None

-- `-` or not, and digits
unfoldable pub int_at : List ℕ → Option (Front ℤ)
int_at chars = if begins 45 chars then digits_at true (drop 1 chars) else digits_at false chars

-- a quote, characters from 20X other than the quote, and a quote: fewer characters than the array has elements
unfoldable pub string_at : ℕ → List ℕ → Option (Front (List ℕ))
string_at size chars = let inside = take_while is_quoted (drop 1 chars) in
    let behind = drop (length inside) (drop 1 chars) in
    if begins 34 chars && (begins 34 behind && nat_lt (length inside) size) then Some (record { value = inside; rest = drop 1 behind }) else None

-- characters above 20X, as many as follow: fewer than the array has elements
unfoldable pub name_at : ℕ → List ℕ → Option (Front (List ℕ))
name_at size chars = let name = take_while is_visible chars in
    if nat_lt (length name) size then Some (record { value = name; rest = drop (length name) chars }) else None

-- ---- readers

-- what a reader answers, Done and the buffer after it, and the lines that it did not ask for
pub record Reading (A : Type 0) : Type 0 where
  pub answer : Answer A
  pub input : Input
  pub lines : List Line

-- a failed read uses up nothing but blanks before it
abbrev pub answered : {A : Type 0} → Option (Front A) → List ℕ → List Line → Reading A
answered (Some front) left lines = record { answer = answers.Value front.value; input = record { done = true; left = front.rest }; lines = lines }
answered None left lines = record { answer = answers.Failed; input = record { done = false; left = left }; lines = lines }

-- a line is asked for where nothing is left
abbrev pub where_left : {R : Type 0} → List ℕ → (List ℕ → R) → R → R
where_left [] here empty = empty
where_left (c ∷ chars) here empty = here (c ∷ chars)

module _ {A : Type 0} (skips : List ℕ → List ℕ) (at : List ℕ → Option (Front A)) where
  -- from these characters on, with these lines: a line that is none to be had makes the read fail
  abbrev pub reads : List Line → List ℕ → Reading A
  reads [] chars = where_left (skips chars) (λ left. answered (at left) left [])
      (record { answer = answers.NeedsLine; input = opened; lines = [] })
  reads (None ∷ lines) chars = where_left (skips chars) (λ left. answered (at left) left (None ∷ lines))
      (record { answer = answers.Failed; input = record { done = false; left = [] }; lines = lines })
  reads (Some text ∷ lines) chars = where_left (skips chars) (λ left. answered (at left) left (Some text ∷ lines))
      (reads lines (line_of text))

  -- a reader does nothing while Done is FALSE
  abbrev pub reading : List Line → Input → Reading A
  reading lines input = if input.done then reads lines input.left else record { answer = answers.Failed; input = input; lines = lines }

abbrev pub after_blanks : List ℕ → List ℕ
after_blanks chars = drop (prefix_len is_blank chars) chars

-- In.Char(ch)
unfoldable pub read_char : List Line → Input → Reading ℕ
read_char = reading (λ chars. chars) char_at

-- In.Int(i)
unfoldable pub read_int : List Line → Input → Reading ℤ
read_int = reading after_blanks int_at

-- In.String(s), where s has that many elements
unfoldable pub read_string : ℕ → List Line → Input → Reading (List ℕ)
read_string size = reading after_blanks (string_at size)

-- In.Name(s), where s has that many elements
unfoldable pub read_name : ℕ → List Line → Input → Reading (List ℕ)
read_name size = reading after_blanks (name_at size)

-- ---- one line after the other

-- the buffer after a line was given
abbrev pub given : Line → Input → Input
given None input = record input { done = false }
given (Some text) input = record input { left = input.left ++ line_of text }

-- a reader that asked goes on with the line, and one that did not leaves it
abbrev pub goes_on : {A : Type 0} → (List Line → Input → Reading A) → Line → List Line → Answer A → Reading A → Reading A
goes_on read line lines answers.NeedsLine first = read lines (given line first.input)
goes_on read line lines answers.Failed first = record first { lines = line ∷ lines }
goes_on read line lines (answers.Value value) first = record first { lines = line ∷ lines }

-- reading with lines is reading without, again and again with one line more
abbrev pub IsAgain : {A : Type 0} → (List Line → Input → Reading A) → Type 0
IsAgain read = (line : Line) (lines : List Line) (input : Input) → read (line ∷ lines) input ≡ goes_on read line lines (read [] input).answer (read [] input)
