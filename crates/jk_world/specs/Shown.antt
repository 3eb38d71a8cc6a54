-- To be believed.
-- What is shown of a cell, from its busy to its idle ("Messaging in Jupyter", version 5.4).
use Rattle.std.specs.Prelude.{◌≡◌, ◌⊎◌, Bool, false, ℕ, if◌then◌else◌, List, [], ◌∷◌, ◌++◌, Option, None, Some}
use Rattle.jp_msg.specs.declared.message.Channel.{Channel}
use Rattle.jp_msg.specs.declared.message.Channel.TheVariants.{Iopub, Shell, Stdin}
use Rattle.jp_msg.specs.declared.message.Execute.{Execute}
use Rattle.jp_msg.specs.declared.message.Failure.{Failure}
use Rattle.jp_msg.specs.declared.message.Message.{Message}
use Rattle.jp_msg.specs.declared.message.Outcome.{Outcome}
use Rattle.jp_msg.specs.declared.message.Outcome.TheVariants.{Done, Failed, Aborted}
use Rattle.jp_msg.specs.declared.message.Output.{Output}
use Rattle.jp_msg.specs.declared.message.Output.TheVariants.{Status, ExecuteInput, Stream, Error, InputRequest, ExecuteReply}
use Rattle.jp_msg.specs.declared.message.State.TheVariants.{Busy, Idle}
use Rattle.jk_log.specs.declared.arrival.Arrival.{Arrival}
use Rattle.jk_log.specs.declared.entry.Entry.{Entry}
use Rattle.jk_log.specs.declared.entry.Told.TheVariants as told
use Rattle.jk_log.specs.declared.entry.To.TheVariants.{All, Seat}
use Rattle.jk_log.specs.declared.mark.Kind.{Kind}
use Rattle.jk_log.specs.declared.mark.Kind.TheVariants.{End, Stop}
use Rattle.jk_log.specs.declared.mark.Ending.TheVariants.{Trapped, Refused}
use Rattle.jk_log.specs.declared.mark.Cause.TheVariants as cause
use Rattle.jk_log.specs.Asked.{execute_in}
use Rattle.jk_log.specs.Failures.{refusal_failure, trap_failure, cause_failure}
use Rattle.jk_log.specs.Log.{Log, arrival_at}
use Rattle.jk_world.specs.Answers.{exchange, outputs_in}
use Rattle.jk_world.specs.Cells.{times_aborted, times_begun, times_closed, closed_as, count_at}
use Rattle.jk_world.specs.Requests.{message_in, shown_at}

-- with the request as its parent
abbrev pub to_all : Message → Output → Entry
to_all sent output = record { to = All; channel = Iopub; parent = Some sent; content = told.Output output }

abbrev pub to_asker : ℕ → Channel → Message → Output → Entry
to_asker seat on sent output = record { to = Seat seat; channel = on; parent = Some sent; content = told.Output output }

abbrev pub unless : Bool → List Entry → List Entry
unless silent entries = if silent then [] else entries

-- busy, and the cell with its count, unless it is silent
abbrev pub opens : ℕ → Message → Execute → List Entry
opens count sent e = to_all sent (Status Busy) ∷ unless e.silent (to_all sent (ExecuteInput e.code count) ∷ [])

-- a stream that is not empty, of a cell that is not silent; or a question for a line, to the asker
abbrev pub IsBetween : ℕ → Message → Execute → Entry → Type 0
IsBetween seat sent e entry =
    ((e.silent ≡ false) × (c : ℕ) × (text : List ℕ) × (entry ≡ to_all sent (Stream (c ∷ text))))
    ⊎ (entry ≡ to_asker seat Stdin sent InputRequest)

abbrev pub AreBetween : ℕ → Message → Execute → List Entry → Type 0
AreBetween seat sent e [] = Unit {0}
AreBetween seat sent e (x ∷ xs) = IsBetween seat sent e x × AreBetween seat sent e xs

-- the reply to the asker, and idle
abbrev pub replies_with : ℕ → Message → Outcome → List Entry
replies_with seat sent outcome = to_asker seat Shell sent (ExecuteReply outcome) ∷ to_all sent (Status Idle) ∷ []

-- the one error, unless the cell is silent, the reply with it, and idle
abbrev pub fails_with : ℕ → Message → Execute → ℕ → Failure → List Entry
fails_with seat sent e count f = unless e.silent (to_all sent (Error f) ∷ []) ++ replies_with seat sent (Failed count f)

-- what the mark that ended or stopped the cell shows, with this count; nothing while it runs
abbrev pub closes_by : ℕ → Message → Execute → ℕ → Kind → List Entry
closes_by seat sent e count (End (Trapped trap) n) = fails_with seat sent e count (trap_failure trap)
closes_by seat sent e count (End (Refused refusal) n) = fails_with seat sent e count (refusal_failure refusal)
closes_by seat sent e count (Stop turns why n) = fails_with seat sent e count (cause_failure why)
closes_by seat sent e count other = replies_with seat sent (Done count)

abbrev pub closes : ℕ → Message → Execute → ℕ → Option Kind → List Entry
closes seat sent e count None = []
closes seat sent e count (Some kind) = closes_by seat sent e count kind

-- The outputs of a begun cell, in order: busy and the cell with the count with which it was begun, streams and questions, and,
-- once it was ended or stopped, the error that this names, one reply with the same count, and idle; nothing after.
pub record IsCellShown (log : Log) (at : ℕ) (a : Arrival) (e : Execute) (sent : Message) : Type 0 where
  pub count : ℕ
  pub begun : count_at at log ≡ count
  pub between : List Entry
  pub are : AreBetween a.seat sent e between
  pub shown : outputs_in (shown_at at log) ≡ opens count sent e ++ (between ++ closes a.seat sent e count (closed_as at log))

-- the reply to a request that was aborted, or else refused, with a count, since its parse found no memory
abbrev pub TellsWhy : Log → ℕ → Outcome → Type 0
TellsWhy log at outcome =
    ((times_aborted at log ≡ 1) × (outcome ≡ Aborted))
    ⊎ ((times_aborted at log ≡ 0) × (outcome ≡ Failed (count_at at log) (cause_failure cause.Memory)))

-- The outputs of such a request: busy, that reply, idle.
pub record IsTurnedAway (log : Log) (at : ℕ) (a : Arrival) (sent : Message) : Type 0 where
  pub outcome : Outcome
  pub why : TellsWhy log at outcome
  pub shown : outputs_in (shown_at at log) ≡ exchange a.seat sent (ExecuteReply outcome)

-- an execute request waits, and nothing is shown of it; or its cell was begun; or it was turned away
abbrev pub IsShownAs : Log → ℕ → Arrival → Execute → Message → Type 0
IsShownAs log at a e sent =
    ((times_closed at log ≡ 0) × (outputs_in (shown_at at log) ≡ []))
    ⊎ (((times_begun at log ≡ 1) × IsCellShown log at a e sent)
    ⊎ ((times_begun at log ≡ 0) × (times_closed at log ≡ 1) × IsTurnedAway log at a sent))

-- so each execute request, at whatever place of the log
abbrev pub CellsAreShown : Log → Type 0
CellsAreShown log =
    (at : ℕ) (a : Arrival) (e : Execute) (sent : Message) → arrival_at at log ≡ Some a → execute_in a.what ≡ Some e → message_in a.what ≡ Some sent → IsShownAs log at a e sent
