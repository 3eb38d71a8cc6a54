-- To be believed.
-- What the cell of a request asks for, and what it is given.
use Rattle.std.specs.Prelude.{◌≡◌, ◌⊎◌, true, false, ℕ, ◌==◌, if◌then◌else◌, List, [], ◌∷◌, ◌++◌, Option, None, Some}
use Rattle.jk_language.specs.Parts.{Line as Given}
use Rattle.jp_msg.specs.declared.message.Execute.{Execute}
use Rattle.jk_log.specs.declared.mark.Item.TheVariants.{Took, Marked}
use Rattle.jk_log.specs.declared.mark.Kind.{Kind}
use Rattle.jk_log.specs.declared.mark.Kind.TheVariants.{Ask}
use Rattle.jk_log.specs.Asked.{input_in}
use Rattle.jk_log.specs.Log.{Log, execute_at, left, seat_at}
use Rattle.jk_world.specs.Cells.{last_turns, lines_at, fresh_lines}
use Rattle.jk_world.specs.Order.{IsFalling}

abbrev pub asked_after : Kind → ℕ → List ℕ → List ℕ
asked_after Ask turns before = turns ∷ before
asked_after other turns before = before

-- the turns at which the cell of the request at a place asked for a line, the last first
abbrev pub asks_at : ℕ → Log → List ℕ
asks_at at [] = []
asks_at at (Took a ∷ past) = asks_at at past
asks_at at (Marked m ∷ past) = if m.at == at then asked_after m.kind (last_turns at past) (asks_at at past) else asks_at at past

-- the texts among lines
abbrev pub texts_in : List Given → List (List ℕ)
texts_in [] = []
texts_in (None ∷ lines) = texts_in lines
texts_in (Some text ∷ lines) = text ∷ texts_in lines

-- the lines that the request at a place was given
abbrev pub all_lines : ℕ → Log → List Given
all_lines at log = lines_at at log ++ fresh_lines at log

abbrev pub listed : Option (List ℕ) → List (List ℕ)
listed None = []
listed (Some text) = text ∷ []

-- the lines that a seat sent, oldest first
abbrev pub sent_lines : ℕ → Log → List (List ℕ)
sent_lines seat [] = []
sent_lines seat (Took a ∷ past) = sent_lines seat past ++ (if a.seat == seat then listed (input_in a.what) else [])
sent_lines seat (Marked m ∷ past) = sent_lines seat past

-- the first stand among the others, in the same order
abbrev pub IsPartOf : {A : Type 0} → List A → List A → Type 0
IsPartOf [] ys = Unit {0}
IsPartOf (x ∷ xs) [] = ⊥
IsPartOf (x ∷ xs) (y ∷ ys) = ((x ≡ y) × IsPartOf xs ys) ⊎ IsPartOf (x ∷ xs) ys

-- A cell asks at most once at one number of turns. What it is given are lines that the seat of its request sent, in their
-- order, each at most once.
pub record IsInputRight (log : Log) (at : ℕ) : Type 0 where
  pub asks : IsFalling (asks_at at log)
  pub texts : IsPartOf (texts_in (all_lines at log)) (sent_lines (seat_at at log) log)

-- a question for a line is for a request that allows it, whose seat has not left since
pub record MayBeAsked (past : Log) (at : ℕ) : Type 0 where
  pub request : Execute
  pub there : execute_at at past ≡ Some request
  pub allows : request.allow_stdin ≡ true
  pub here : left (seat_at at past) at past ≡ false

abbrev pub IsAllowed : Kind → ℕ → Log → Type 0
IsAllowed Ask at past = MayBeAsked past at
IsAllowed other at past = Unit {0}

-- so each question
abbrev pub AsksAreAllowed : Log → Type 0
AsksAreAllowed [] = Unit {0}
AsksAreAllowed (Took a ∷ past) = AsksAreAllowed past
AsksAreAllowed (Marked m ∷ past) = IsAllowed m.kind m.at past × AsksAreAllowed past
