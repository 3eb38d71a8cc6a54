-- A cell at work in a slice.
use Rattle.std.specs.Prelude.{◌≡◌, true, false, Bool, not, ◌&&◌, ℕ, ◌≤◌, List, ◌++◌, length, Some}
use Rattle.jk_language.specs.declared.outcome.Turned.{Turned}
use Rattle.jk_language.specs.declared.outcome.Turned.TheVariants as turned
use Rattle.jk_language.specs.declared.outcome.Outcome.TheVariants as outcome
use Rattle.jk_language.specs.Parts.{Line}
use Rattle.jk_language.specs.Spoken.{Spoken}
use Rattle.jk_language.specs.MachineState.{MachineState, here}
use Rattle.jk_language.specs.Runs.{IsGiven, OutcomeIs, tells_end, tells_line}
use Rattle.jk_core.specs.declared.desk.Active.{Active}
use Rattle.jk_core.specs.declared.desk.Place.{Place}
use Rattle.jk_core.specs.declared.desk.Place.TheVariants.{Resting, Running as Runs}
use Rattle.jk_core.specs.declared.desk.Wants.{Wants}
use Rattle.jk_core.specs.declared.desk.Wants.TheVariants.{Nothing, Asked, Given}
use Rattle.jk_core.specs.declared.kernel.Work.{Work}
use Rattle.jk_core.specs.declared.kernel.Work.TheVariants.{Ran, NeedsLine}
use Rattle.jk_log.specs.Log.{Log, Running, running, session, meaning, stood, left}
use Rattle.jk_log.specs.Legal.{IsLineless}
use Rattle.jk_core.specs.State.{KernelState}
use Rattle.jk_core.specs.Steps.{has_lines, GoesWithout}
use Rattle.jk_core.specs.Kept.{IsOf}

-- a cell that was not given a line since it asked needs one, and there is none to be had
abbrev pub HasAsked : Wants → Running → Type 0
HasAsked Nothing r = r.asked ≡ false
HasAsked Asked r = r.asked ≡ true
HasAsked (Given a) r = ⊥

-- whether a cell may ask its seat for a line
abbrev pub may_ask : {M : Type 0} → Active M → Log → Bool
may_ask active log = active.allows && not (left active.seat active.at log)

-- A cell that has gone on without a line so often, within so many turns: its machine was given all lines so far, and its
-- output was taken up to the last flush.
pub record IsInSlice {S T M : Type 0} (spoken : Spoken S T) (state : M → MachineState S) (old k : KernelState T) (n : ℕ) (active : Active M) : Type 0 where
  -- the cell at the beginning of the slice, and now
  pub first : Running
  pub began : running old.log ≡ Some first
  pub nones : ℕ
  pub cell : Running
  pub without : GoesWithout spoken nones n first old cell k
  pub runs : running k.log ≡ Some cell
  pub of : IsOf cell active
  pub goes : (lines : List Line) (n : ℕ) → (state active.machine).goes lines n ≡ spoken.cell (session spoken k.log) cell.request.code lines n
  pub lines : (state active.machine).lines ≡ cell.lines ++ cell.fresh
  pub shown : (state active.machine).shown ≡ length (stood spoken k.log cell).output
  pub used : (here (state active.machine)).turns ≡ (state active.machine).turns
  pub behind : cell.turns ≤ old.ran
  pub onward : old.ran ≤ (state active.machine).turns
  pub within : (state active.machine).turns ≤ n
  pub read : active.read ≡ has_lines cell.fresh
  pub asked : HasAsked active.wants cell
  -- one that asked needs a line, and there is none to be had
  pub left : cell.asked ≡ true → IsLineless k.log cell × ((here (state active.machine)).outcome ≡ outcome.NeedsLine)

-- a machine that asks may have to be asked once more before it uses a turn
abbrev pub weight : Turned → ℕ
weight turned.NeedsLine = 1
weight turned.Stopped = 0
weight turned.Ended = 0
weight (turned.Trapped trap) = 0
weight turned.NoMemory = 0

-- a machine that can go on
pub record IsAtWork {S T M : Type 0} (spoken : Spoken S T) (state : M → MachineState S) (old k : KernelState T) (n : ℕ) (active : Active M) : Type 0 where
  pub stands : IsInSlice spoken state old k n active
  pub on : (state active.machine).over ≡ false

-- A machine that has gone on to so many turns, or stands with fewer where memory was refused, and its answer.
pub record HasCome {S T M : Type 0} (spoken : Spoken S T) (state : M → MachineState S) (old k : KernelState T) (n : ℕ) (answer : Turned) (active : Active M) : Type 0 where
  pub stands : IsInSlice spoken state old k n active
  pub turns : ℕ
  pub onward : old.ran ≤ turns
  pub all : IsGiven answer n turns
  pub outcome : OutcomeIs answer (meaning spoken k.log stands.cell turns).outcome
  pub here : (state active.machine).turns ≡ (meaning spoken k.log stands.cell turns).turns
  pub asks : (state active.machine).asks ≡ tells_line answer
  pub over : (state active.machine).over ≡ tells_end answer

-- it lacks a line, and the log has no room to say so
abbrev pub HasStuck : {S T M : Type 0} → Spoken S T → (M → MachineState S) → KernelState T → KernelState T → ℕ → Active M → Type 0
HasStuck spoken state old k n active =
    (c : HasCome spoken state old k n turned.NeedsLine active) × IsLineless k.log c.stands.cell

-- what a kernel says of its work at the end of a slice, by the machine's answer
abbrev pub work_of : Turned → Work
work_of turned.Stopped = Ran
work_of turned.Ended = Ran
work_of (turned.Trapped trap) = Ran
work_of turned.NeedsLine = NeedsLine
work_of turned.NoMemory = Ran

-- what stands beside the script then: the cell, which may have asked, or the session that it leaves
abbrev pub place_of : {S M : Type 0} → Turned → S → Active M → Place S M
place_of turned.Stopped session active = Runs active
place_of turned.Ended session active = Resting session
place_of (turned.Trapped trap) session active = Resting session
place_of turned.NeedsLine session active = Runs (record active { wants = Asked })
place_of turned.NoMemory session active = Resting session
