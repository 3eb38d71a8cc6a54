-- What contracts see of the buffer of In.
use Rattle.std.specs.Prelude.{◌≡◌, List, ℕ, [], None, Bool, true, false, drop, length, nat_lt}
use Rattle.ob_inout.specs.declared.answer.Answer.{Answer}
use Rattle.ob_inout.specs.declared.answer.Answer.TheVariants as answers
use Rattle.ob_inout.specs.Reading.{Input, opened, given, after_blanks}

-- what In has of its lines, and the characters of the last string or name
pub record Buffer : Type 0 where
  pub input : Input
  pub word : List ℕ

abbrev pub fresh : Buffer
fresh = record { input = opened; word = [] }

-- there is no line
abbrev pub failed : Buffer → Buffer
failed b = record { input = given None b.input; word = b.word }

-- after the blanks
abbrev pub skipped : Buffer → Buffer
skipped b = record { input = record { done = b.input.done; left = after_blanks b.input.left }; word = b.word }

abbrev pub is_some_left : Buffer → Bool
is_some_left b = nat_lt 0 (length b.input.left)

-- after that many characters
abbrev pub advanced : ℕ → Buffer → Buffer
advanced used b = record { input = record { done = b.input.done; left = drop used b.input.left }; word = b.word }

abbrev pub with_word : List ℕ → Buffer → Buffer
with_word word b = record { input = b.input; word = word }

-- a string or name that is read is the new word; else the word stays
abbrev pub IsAnswer : Answer (List ℕ) → Answer (Unit {0}) → List ℕ → List ℕ → Type 0
IsAnswer (answers.Value chars) (answers.Value done) before after = after ≡ chars
IsAnswer answers.Failed answers.Failed before after = after ≡ before
IsAnswer answers.NeedsLine answers.NeedsLine before after = after ≡ before
IsAnswer _ _ before after = ⊥
