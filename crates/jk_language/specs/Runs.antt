-- To be believed.
-- What a machine does, by the meaning of its cell.
use Rattle.std.specs.Prelude.{◌≡◌, Bool, true, false, ℕ, ◌+◌, ◌<◌, List, [], ◌∷◌, ◌++◌, length, drop}
use Rattle.jk_language.specs.declared.outcome.Outcome.{Outcome}
use Rattle.jk_language.specs.declared.outcome.Outcome.TheVariants as outcome
use Rattle.jk_language.specs.declared.outcome.Turned.{Turned}
use Rattle.jk_language.specs.declared.outcome.Turned.TheVariants as turned
use Rattle.jk_language.specs.Parts.{Line}
use Rattle.jk_language.specs.MachineState.{MachineState, meaning_of, here}

-- the output since the last take
abbrev pub unshown : {S : Type 0} → MachineState S → List ℕ
unshown m = drop m.shown (here m).output

-- a machine whose output was taken up to where it stands
abbrev pub output_taken : {S : Type 0} → MachineState S → MachineState S
output_taken m = record m { shown = length (here m).output }

-- a machine that was given the line that it asked for
abbrev pub line_given : {S : Type 0} → Line → MachineState S → MachineState S
line_given line m = record m { lines = m.lines ++ line ∷ []; asks = false }

-- the outcome that an answer tells; where memory was refused, it stands before what wants it
abbrev pub OutcomeIs : Turned → Outcome → Type 0
OutcomeIs turned.Ended o = o ≡ outcome.Ended
OutcomeIs (turned.Trapped cut) o = o ≡ outcome.Trapped cut
OutcomeIs turned.Stopped o = (grows : Bool) × (o ≡ outcome.Stopped grows)
OutcomeIs turned.NeedsLine o = o ≡ outcome.NeedsLine
OutcomeIs turned.NoMemory o = o ≡ outcome.Stopped true

-- how many of n turns were there for it: all of them, but fewer where memory was refused
abbrev pub IsGiven : Turned → ℕ → ℕ → Type 0
IsGiven turned.Ended n given = given ≡ n
IsGiven (turned.Trapped _) n given = given ≡ n
IsGiven turned.Stopped n given = given ≡ n
IsGiven turned.NeedsLine n given = given ≡ n
IsGiven turned.NoMemory n given = given < n

-- whether an answer tells that the cell is over
abbrev pub tells_end : Turned → Bool
tells_end turned.Ended = true
tells_end (turned.Trapped cut) = true
tells_end turned.Stopped = false
tells_end turned.NeedsLine = false
tells_end turned.NoMemory = false

-- whether an answer asks for a line
abbrev pub tells_line : Turned → Bool
tells_line turned.Ended = false
tells_line (turned.Trapped cut) = false
tells_line turned.Stopped = false
tells_line turned.NeedsLine = true
tells_line turned.NoMemory = false

-- The machine went on by n turns: to where its cell stands then, or stands with less where memory was refused.
abbrev pub HasTurned : {S : Type 0} → MachineState S → ℕ → Turned → MachineState S → Type 0
HasTurned old n answer new =
    (given : ℕ) × IsGiven answer n given
    × OutcomeIs answer (meaning_of old (old.turns + given)).outcome
    × (new ≡ record old { turns = (meaning_of old (old.turns + given)).turns; asks = tells_line answer; over = tells_end answer })
