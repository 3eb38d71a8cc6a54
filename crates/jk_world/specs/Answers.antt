-- To be believed.
-- What is shown of a request that waits on the shell channel and is no cell ("Messaging in Jupyter", version 5.4).
use Rattle.std.specs.Prelude.{◌≡◌, ◌⊎◌, Bool, true, false, ℕ, List, [], ◌∷◌, ◌++◌, filter, Option, Some}
use Rattle.jk_language.specs.Spoken.{Spoken}
use Rattle.jp_msg.specs.declared.message.Message.{Message}
use Rattle.jp_msg.specs.declared.message.Channel.TheVariants.{Iopub, Shell}
use Rattle.jp_msg.specs.declared.message.Completeness.{Completeness}
use Rattle.jp_msg.specs.declared.message.Output.{Output}
use Rattle.jp_msg.specs.declared.message.Output.TheVariants.{Status}
use Rattle.jp_msg.specs.declared.message.Request.{Request}
use Rattle.jp_msg.specs.declared.message.State.TheVariants.{Busy, Idle}
use Rattle.jk_log.specs.declared.arrival.Arrival.{Arrival}
use Rattle.jk_log.specs.declared.entry.Entry.{Entry}
use Rattle.jk_log.specs.declared.entry.Told.{Told}
use Rattle.jk_log.specs.declared.entry.Told.TheVariants as told
use Rattle.jk_log.specs.declared.entry.To.TheVariants.{All, Seat}
use Rattle.jk_log.specs.declared.mark.Kind.{Kind}
use Rattle.jk_log.specs.declared.mark.Kind.TheVariants.{Answer}
use Rattle.jk_log.specs.Asked.{query_in}
use Rattle.jk_log.specs.Log.{Log, arrival_at}
use Rattle.jk_log.specs.Queries.{IsStatus, reply_to}
use Rattle.jk_log.specs.Render.{render}
use Rattle.jk_world.specs.Cells.{times}
use Rattle.jk_world.specs.Requests.{message_in, shown_at}

-- how often such a request is answered
abbrev pub answers_query : Kind → ℕ
answers_query (Answer status) = 1
answers_query other = 0

abbrev pub times_query_answered : ℕ → Log → ℕ
times_query_answered at log = times answers_query at log

abbrev pub is_output : Told → Bool
is_output (told.Output output) = true
is_output other = false

-- the outputs among entries
abbrev pub outputs_in : List Entry → List Entry
outputs_in entries = filter (λ (e : Entry). is_output e.content) entries

-- busy to all, the reply to the seat that asked, on the channel on which it asked, and idle to all; each has the request as
-- its parent
abbrev pub exchange : ℕ → Message → Output → List Entry
exchange seat sent reply =
    record { to = All; channel = Iopub; parent = Some sent; content = told.Output (Status Busy) }
    ∷ record { to = Seat seat; channel = Shell; parent = Some sent; content = told.Output reply }
    ∷ record { to = All; channel = Iopub; parent = Some sent; content = told.Output (Status Idle) } ∷ []

-- These three are all the outputs that are shown of the request, and nothing stands between them. The reply is that of the
-- request, with its status.
pub record IsReplied {S T : Type 0} (spoken : Spoken S T) (log : Log) (at : ℕ) (a : Arrival) (asked : Request) : Type 0 where
  pub sent : Message
  pub status : Option Completeness
  pub reply : Output
  pub message : message_in a.what ≡ Some sent
  pub right : IsStatus spoken asked status
  pub content : reply_to asked status ≡ Some reply
  pub shown : outputs_in (shown_at at log) ≡ exchange a.seat sent reply
  pub before : List Entry
  pub after : List Entry
  pub together : before ++ (exchange a.seat sent reply ++ after) ≡ render log

-- Nothing is shown of such a request until it is answered. Then it is shown busy, with one reply, and idle.
abbrev pub IsShownOnce : {S T : Type 0} → Spoken S T → Log → ℕ → Arrival → Request → Type 0
IsShownOnce spoken log at a asked =
    ((times_query_answered at log ≡ 0) × (outputs_in (shown_at at log) ≡ []))
    ⊎ ((times_query_answered at log ≡ 1) × IsReplied spoken log at a asked)

-- so each request that waits on the shell channel and is no cell, at whatever place of the log
abbrev pub AreShownOnce : {S T : Type 0} → Spoken S T → Log → Type 0
AreShownOnce spoken log =
    (at : ℕ) (a : Arrival) (asked : Request) → arrival_at at log ≡ Some a → query_in a.what ≡ Some asked → IsShownOnce spoken log at a asked
