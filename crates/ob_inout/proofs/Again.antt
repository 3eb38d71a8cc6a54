-- A reader that asked for a line goes on as if the line had been there.
use Rattle.std.proofs.Common.{◌≡◌, ℕ, Bool, true, false, List, [], ◌∷◌, Option, Some, None, refl}
use Rattle.ob_inout.specs.declared.answer.Answer.TheVariants as answers
use Rattle.ob_inout.specs.Reading.{Line, Front, Reading, answered, where_left, opened, reads, reading, line_of, goes_on, IsAgain, after_blanks, char_at, int_at, string_at, name_at, read_char, read_int, read_string, read_name}

module _ {A : Type 0} (skips : List ℕ → List ℕ) (at : List ℕ → Option (Front A)) (lines : List Line) where
  abbrev Goes : Line → Reading A → Reading A → Type 0
  Goes line whole first = whole ≡ goes_on (reading skips at) line lines first.answer first

  answered_again : (line : Line) (left : List ℕ) (x : Option (Front A)) → Goes line (answered x left (line ∷ lines)) (answered x left [])
  answered_again line left None = refl
  answered_again line left (Some front) = refl

  abbrev Asks : Reading A
  Asks = record { answer = answers.NeedsLine; input = opened; lines = [] }

  no_line_again : (x : List ℕ) → Goes None (where_left x (λ left. answered (at left) left (None ∷ lines)) (record { answer = answers.Failed; input = record { done = false; left = [] }; lines = lines })) (where_left x (λ left. answered (at left) left []) Asks)
  no_line_again [] = refl
  no_line_again (c ∷ chars) = answered_again None (c ∷ chars) (at (c ∷ chars))

  line_again : (text x : List ℕ) → Goes (Some text) (where_left x (λ left. answered (at left) left (Some text ∷ lines)) (reads skips at lines (line_of text))) (where_left x (λ left. answered (at left) left []) Asks)
  line_again text [] = refl
  line_again text (c ∷ chars) = answered_again (Some text) (c ∷ chars) (at (c ∷ chars))

  again_by : (line : Line) (done : Bool) (left : List ℕ) → Goes line (reading skips at (line ∷ lines) (record { done = done; left = left })) (reading skips at [] (record { done = done; left = left }))
  again_by line false left = refl
  again_by None true left = no_line_again (skips left)
  again_by (Some text) true left = line_again text (skips left)

again : {A : Type 0} (skips : List ℕ → List ℕ) (at : List ℕ → Option (Front A)) → IsAgain (reading skips at)
again skips at = λ line lines input. again_by skips at lines line input.done input.left

pub again_char : IsAgain read_char
unfolding read_char
again_char = again (λ chars. chars) char_at

pub again_int : IsAgain read_int
unfolding read_int
again_int = again after_blanks int_at

pub again_string : (size : ℕ) → IsAgain (read_string size)
unfolding read_string
again_string size = again after_blanks (string_at size)

pub again_name : (size : ℕ) → IsAgain (read_name size)
unfolding read_name
again_name size = again after_blanks (name_at size)
