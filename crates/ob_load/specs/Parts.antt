-- To be believed.
-- What a cell has come to, as a kernel shows it.
use Rattle.std.specs.Prelude.{ℕ, Bool, true, false}
use Rattle.ob_mean.specs.declared.outcome.TrapKind.{TrapKind}
use Rattle.ob_mean.specs.declared.outcome.TrapKind.TheVariants as trap
use Rattle.ob_mean.specs.declared.outcome.TurnKind.{TurnKind}
use Rattle.ob_mean.specs.declared.outcome.TurnKind.TheVariants as kind
use Rattle.ob_session.specs.Session.{Session}
use Rattle.ob_session.specs.Cells as cells
use Rattle.jk_language.specs.Parts.{Meaning}
use Rattle.jk_language.specs.declared.outcome.LinkFault.{LinkFault}
use Rattle.jk_language.specs.declared.outcome.LinkFault.TheVariants as fault
use Rattle.jk_language.specs.declared.outcome.Outcome.{Outcome}
use Rattle.jk_language.specs.declared.outcome.Outcome.TheVariants as outcome

-- the number by which a trap is named
abbrev pub trap_number : TrapKind → ℕ
trap_number trap.Index = 1
trap_number trap.Divisor = 2
trap_number trap.Label = 3
trap_number trap.Assertion = 4
trap_number trap.Character = 5
trap_number trap.ShiftCount = 6
trap_number trap.TextLength = 7
trap_number trap.CallDepth = 8
trap_number trap.Byte = 9
trap_number trap.Guard = 10

-- a turn that may want memory: each but the entry of a loop's body
abbrev pub grows : TurnKind → Bool
grows kind.BodyEntry = false
grows kind.ProcedureCall = true
grows kind.Input = true
grows kind.Output = true
grows kind.LineAsked = true

abbrev pub told_fault : cells.LinkFault → LinkFault
told_fault (cells.NotLoaded name) = fault.NotLoaded name
told_fault (cells.NoCommand home name) = fault.NoCommand home name
told_fault (cells.OtherKey name) = fault.OtherKey name

abbrev pub told_outcome : cells.CellOutcome → Outcome
told_outcome cells.Ended = outcome.Ended
told_outcome (cells.Trapped kind home line) = outcome.Trapped (record { number = trap_number kind; «module» = home; line = line })
told_outcome (cells.Stopped kind) = outcome.Stopped (grows kind)
told_outcome cells.NeedsLine = outcome.NeedsLine
told_outcome (cells.Unlinked why) = outcome.Unlinked (told_fault why)

abbrev pub told : cells.CellMeaning → Meaning Session
told m = record { session = m.session; output = m.output; lines_used = m.lines_used; turns = m.turns; outcome = told_outcome m.outcome }
