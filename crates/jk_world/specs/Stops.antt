-- To be believed.
-- Why cells are stopped ("Messaging in Jupyter", version 5.4: interrupt and shutdown, on the control channel).
use Rattle.std.specs.Prelude.{◌≡◌, ◌⊎◌, Bool, true, false, ℕ, List, [], ◌∷◌, ◌++◌, Option, None, Some}
use Rattle.jp_msg.specs.declared.message.Content.{Content}
use Rattle.jp_msg.specs.declared.message.Content.TheVariants as content
use Rattle.jp_msg.specs.declared.message.Request.{Request}
use Rattle.jp_msg.specs.declared.message.Request.TheVariants as request
use Rattle.jk_log.specs.declared.arrival.What.{What}
use Rattle.jk_log.specs.declared.arrival.What.TheVariants.{Control}
use Rattle.jk_log.specs.declared.mark.Cause.{Cause}
use Rattle.jk_log.specs.declared.mark.Cause.TheVariants.{Memory, Interrupted, Restarted}
use Rattle.jk_log.specs.declared.mark.Item.{Item}
use Rattle.jk_log.specs.declared.mark.Item.TheVariants.{Took, Marked}
use Rattle.jk_log.specs.declared.mark.Kind.{Kind}
use Rattle.jk_log.specs.declared.mark.Kind.TheVariants.{Flush, Stop, Interrupt}
use Rattle.jk_log.specs.Log.{Log}
use Rattle.jk_world.specs.Cells.{times_begun, times_ended}

-- the cell of the request at a place runs: it was begun, and not ended or stopped yet
pub record Runs (log : Log) (at : ℕ) : Type 0 where
  pub begun : times_begun at log ≡ 1
  pub goes : times_ended at log ≡ 0

abbrev pub request_cause : Request → Option Cause
request_cause request.Interrupt = Some Interrupted
request_cause (request.Shutdown restart) = Some Restarted
request_cause _ = None

abbrev pub content_cause : Content → Option Cause
content_cause (content.Request r) = request_cause r
content_cause (content.Output o) = None

abbrev pub what_cause : What → Option Cause
what_cause (Control m) = content_cause m.content
what_cause _ = None

-- for which cause an item stops the cell that runs: an interrupt or a shutdown is taken
abbrev pub stops_for : Item → Option Cause
stops_for (Took a) = what_cause a.what
stops_for (Marked m) = None

-- what may stand between that and the stop: the answer to an interrupt, and what the cell had written
abbrev pub stands_before : Kind → Bool
stands_before Interrupt = true
stands_before (Flush turns text) = true
stands_before _ = false

abbrev pub AreBefore : List Item → Type 0
AreBefore [] = Unit {0}
AreBefore (Took a ∷ items) = ⊥
AreBefore (Marked m ∷ items) = (stands_before m.kind ≡ true) × AreBefore items

abbrev pub stop : ℕ → ℕ → Cause → ℕ → Item
stop at turns cause count = Marked (record { at = at; kind = Stop turns cause count })

-- the reason of a stop after this part of the log, at which the cell ran
pub record IsStoppedBy (past : Log) (at : ℕ) (cause : Cause) : Type 0 where
  pub between : List Item
  pub reason : Item
  pub before : Log
  pub parts : between ++ reason ∷ before ≡ past
  pub directly : AreBefore between
  pub right : stops_for reason ≡ Some cause
  pub ran : Runs before at

-- the stop of a cell among the items that follow a reason
pub record IsStopped (later : List Item) (at : ℕ) (cause : Cause) : Type 0 where
  pub after : List Item
  pub between : List Item
  pub turns : ℕ
  pub count : ℕ
  pub parts : after ++ stop at turns cause count ∷ between ≡ later
  pub directly : AreBefore between

-- A cell is stopped for lack of memory, or by an interrupt or a shutdown that was taken while it ran; and each of these
-- stops the cell that runs. The stop follows directly.
pub record StopsAreRight (log : Log) : Type 0 where
  pub reasons : (later : List Item) (at turns : ℕ) (cause : Cause) (count : ℕ) (past : Log)
      → later ++ stop at turns cause count ∷ past ≡ log → (cause ≡ Memory) ⊎ IsStoppedBy past at cause
  pub stopped : (later : List Item) (reason : Item) (past : Log) (at : ℕ) (cause : Cause)
      → later ++ reason ∷ past ≡ log → stops_for reason ≡ Some cause → Runs past at → IsStopped later at cause
