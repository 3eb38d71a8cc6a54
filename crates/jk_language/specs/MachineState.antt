-- To be believed.
-- What a machine stands at.
use Rattle.std.specs.Prelude.{ℕ, Bool, List}
use Rattle.jk_language.specs.Parts.{Line, Meaning}

pub record MachineState (S : Type 0) : Type 0 where
  -- what the cell that it was begun with comes to with these lines in n turns
  pub goes : List Line → ℕ → Meaning S
  -- the lines that it was given
  pub lines : List Line
  -- the turns so far, and the length of the output that was taken
  pub turns : ℕ
  pub shown : ℕ
  -- whether it told that it needs a line, and was given none since
  pub asks : Bool
  -- whether the cell's end was told
  pub over : Bool

-- what it comes to with the lines that it was given, in n turns
abbrev pub meaning_of : {S : Type 0} → MachineState S → ℕ → Meaning S
meaning_of m n = m.goes m.lines n

-- where it stands
abbrev pub here : {S : Type 0} → MachineState S → Meaning S
here m = meaning_of m m.turns
