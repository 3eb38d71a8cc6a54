-- To be believed.
-- What comes of beginning a cell.
use Rattle.std.specs.Prelude.{◌≡◌, ℕ, false, List, []}
use Rattle.jk_language.specs.declared.language.Begun.{Begun}
use Rattle.jk_language.specs.declared.language.Begun.TheVariants.{Runs, Refused}
use Rattle.jk_language.specs.Parts.{Line}
use Rattle.jk_language.specs.MachineState.{MachineState}
use Rattle.jk_language.specs.Spoken.{Spoken}

-- a machine that was begun for this text in this session
pub record IsFresh {S T : Type 0} (spoken : Spoken S T) (session : S) (text : List ℕ) (m : MachineState S) : Type 0 where
  pub lines : m.lines ≡ []
  pub turns : m.turns ≡ 0
  pub shown : m.shown ≡ 0
  pub quiet : m.asks ≡ false
  pub on : m.over ≡ false
  pub goes : (lines : List Line) (n : ℕ) → m.goes lines n ≡ spoken.cell session text lines n

-- a machine before the first turn of a cell, or why it does not run
abbrev pub HasBegun : {S T M : Type 0} → Spoken S T → (M → MachineState S) → S → List ℕ → Begun S M → Type 0
HasBegun spoken state session text (Runs m) = IsFresh spoken session text (state m)
HasBegun spoken state session text (Refused back refusal) = (back ≡ session) × spoken.IsRefusedFor session text refusal
