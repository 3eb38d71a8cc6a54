-- To be believed.
-- Why execute requests are aborted ("Messaging in Jupyter", version 5.4: `stop_on_error` of an execute request, and shutdown).
use Rattle.std.specs.Prelude.{◌≡◌, Bool, true, false, ◌&&◌, ℕ, List, [], ◌∷◌, ◌++◌, Some}
use Rattle.jp_msg.specs.declared.message.Content.{Content}
use Rattle.jp_msg.specs.declared.message.Content.TheVariants as content
use Rattle.jp_msg.specs.declared.message.Execute.{Execute}
use Rattle.jp_msg.specs.declared.message.Request.{Request}
use Rattle.jp_msg.specs.declared.message.Request.TheVariants as request
use Rattle.jk_log.specs.declared.arrival.What.{What}
use Rattle.jk_log.specs.declared.arrival.What.TheVariants.{Control}
use Rattle.jk_log.specs.declared.mark.Cause.TheVariants.{Memory, Interrupted, Restarted}
use Rattle.jk_log.specs.declared.mark.Ending.TheVariants.{Completed, Trapped, Refused}
use Rattle.jk_log.specs.declared.mark.Item.{Item}
use Rattle.jk_log.specs.declared.mark.Item.TheVariants.{Took, Marked}
use Rattle.jk_log.specs.declared.mark.Kind.{Kind}
use Rattle.jk_log.specs.declared.mark.Kind.TheVariants.{Flush, End, Stop, Abort, Answer}
use Rattle.jk_log.specs.declared.mark.Mark.{Mark}
use Rattle.jk_log.specs.Log.{Log, execute_at, option_or}
use Rattle.jk_world.specs.Cells.{times_closed}

-- an execute request that waits: it was taken, and was not begun, refused or aborted yet
pub record Waits (log : Log) (at : ℕ) : Type 0 where
  pub request : Execute
  pub there : execute_at at log ≡ Some request
  pub still : times_closed at log ≡ 0

-- whether a mark says that a cell failed, other than by a shutdown
abbrev pub fails : Kind → Bool
fails (End (Trapped trap) count) = true
fails (End (Refused refusal) count) = true
fails (Stop turns Memory count) = true
fails (Stop turns Interrupted count) = true
fails other = false

-- whether the request at a place says that its error stops what waits
abbrev pub stops_on_error : ℕ → Log → Bool
stops_on_error at log = option_or (λ (e : Execute). e.stop_on_error) false (execute_at at log)

abbrev pub request_shuts : Request → Bool
request_shuts (request.Shutdown restart) = true
request_shuts _ = false

abbrev pub content_shuts : Content → Bool
content_shuts (content.Request r) = request_shuts r
content_shuts (content.Output o) = false

-- whether what arrived shuts the kernel down
abbrev pub shuts_down : What → Bool
shuts_down (Control m) = content_shuts m.content
shuts_down other = false

-- Whether an item after this part of the log is a reason to abort what waits: an error of a cell whose request says that
-- it stops on errors, or a shutdown.
abbrev pub is_reason : Log → Item → Bool
is_reason past (Took a) = shuts_down a.what
is_reason past (Marked m) = fails m.kind && stops_on_error m.at past

-- what may stand between a reason and an abort: other aborts and answers, and how a shutdown stops the cell that runs
abbrev pub goes_between : Kind → Bool
goes_between Abort = true
goes_between (Answer status) = true
goes_between (Flush turns text) = true
goes_between (Stop turns Restarted count) = true
goes_between other = false

-- so no arrival is taken there, and no cell is begun
abbrev pub is_between : Item → Bool
is_between (Took a) = false
is_between (Marked m) = goes_between m.kind

abbrev pub AreBetween : List Item → Type 0
AreBetween [] = Unit {0}
AreBetween (i ∷ items) = (is_between i ≡ true) × AreBetween items

abbrev pub abort : ℕ → Item
abort at = Marked (record { at = at; kind = Abort })

-- the reason of an abort after this part of the log, at which the request waited
pub record HasReason (past : Log) (at : ℕ) : Type 0 where
  pub between : List Item
  pub reason : Item
  pub before : Log
  pub parts : between ++ reason ∷ before ≡ past
  pub directly : AreBetween between
  pub right : is_reason before reason ≡ true
  pub waited : Waits before at

-- the abort of a request among the items that follow a reason
pub record IsAborted (later : List Item) (at : ℕ) : Type 0 where
  pub after : List Item
  pub between : List Item
  pub parts : after ++ abort at ∷ between ≡ later
  pub directly : AreBetween between

-- Each abort has a reason at which its request waited; and after each reason each execute request that waits is aborted.
-- The abort follows the reason directly.
pub record AbortsAreRight (log : Log) : Type 0 where
  pub reasons : (later : List Item) (at : ℕ) (past : Log) → later ++ abort at ∷ past ≡ log → HasReason past at
  pub aborted : (later : List Item) (reason : Item) (past : Log) (at : ℕ)
      → later ++ reason ∷ past ≡ log → is_reason past reason ≡ true → Waits past at → IsAborted later at
