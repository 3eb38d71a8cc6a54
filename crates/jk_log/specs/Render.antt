-- To be believed.
-- What is shown of a log.
use Rattle.std.specs.Prelude.{Bool, ℕ, if◌then◌else◌, List, [], ◌∷◌, ◌++◌, Option, None, Some}
use Rattle.jp_msg.specs.declared.message.Message.{Message}
use Rattle.jp_msg.specs.declared.message.Execute.{Execute}
use Rattle.jp_msg.specs.declared.message.Failure.{Failure}
use Rattle.jp_msg.specs.declared.message.Channel.{Channel}
use Rattle.jp_msg.specs.declared.message.Channel.TheVariants as channel
use Rattle.jp_msg.specs.declared.message.State.TheVariants.{Busy, Idle}
use Rattle.jp_msg.specs.declared.message.Output.{Output}
use Rattle.jp_msg.specs.declared.message.Output.TheVariants.{Status, ExecuteInput, Stream, Error, InputRequest, ExecuteReply, KernelInfoReply, InterruptReply, ShutdownReply}
use Rattle.jp_msg.specs.declared.message.Outcome.TheVariants.{Done, Failed, Aborted}
use Rattle.jk_log.specs.declared.arrival.Arrival.{Arrival}
use Rattle.jk_log.specs.declared.arrival.What.{What}
use Rattle.jk_log.specs.declared.arrival.What.TheVariants as what
use Rattle.jk_log.specs.declared.entry.Entry.{Entry}
use Rattle.jk_log.specs.declared.entry.Told.{Told}
use Rattle.jk_log.specs.declared.entry.Told.TheVariants as told_as
use Rattle.jk_log.specs.declared.entry.To.{To}
use Rattle.jk_log.specs.declared.entry.To.TheVariants.{All, Seat, Nobody}
use Rattle.jk_log.specs.declared.mark.Item.TheVariants.{Took, Marked}
use Rattle.jk_log.specs.declared.mark.Mark.{Mark}
use Rattle.jk_log.specs.declared.mark.Kind.{Kind}
use Rattle.jk_log.specs.declared.mark.Kind.TheVariants.{Join, Leave, Begin, Flush, Ask, Line, End, Stop, Refuse, Abort, Answer, Interrupt, KernelInfo, Restart}
use Rattle.jk_log.specs.declared.mark.Ending.{Ending}
use Rattle.jk_log.specs.declared.mark.Ending.TheVariants.{Completed, Trapped, Refused}
use Rattle.jk_log.specs.declared.mark.Cause.TheVariants as cause
use Rattle.jk_log.specs.Failures.{refusal_failure, trap_failure, cause_failure}
use Rattle.jk_log.specs.Asked.{message_execute, message_query}
use Rattle.jp_msg.specs.declared.message.Completeness.{Completeness}
use Rattle.jp_msg.specs.declared.message.Request.{Request}
use Rattle.jk_log.specs.Queries.{reply_to}
use Rattle.jk_log.specs.Log.{Log, arrival_at, option_or}

abbrev pub told : To → Channel → Message → Output → Entry
told to on parent output = record { to = to; channel = on; parent = Some parent; content = told_as.Output output }

-- to all
abbrev pub shown : Message → Output → Entry
shown parent output = told All channel.Iopub parent output

-- the reply to the asker, and idle
abbrev pub replied : ℕ → Channel → Message → Output → List Entry
replied seat on parent output = told (Seat seat) on parent output ∷ shown parent (Status Idle) ∷ []

-- nothing of a silent cell
abbrev pub unless : Bool → List Entry → List Entry
unless silent entries = if silent then [] else entries

abbrev pub streamed : Message → List ℕ → List Entry
streamed parent [] = []
streamed parent (c ∷ text) = shown parent (Stream (c ∷ text)) ∷ []

abbrev pub begun : Message → Execute → ℕ → List Entry
begun parent e count = shown parent (Status Busy) ∷ unless e.silent (shown parent (ExecuteInput e.code count) ∷ [])

-- the error, the reply to the asker, and idle
abbrev pub failed : ℕ → Message → Bool → Failure → ℕ → List Entry
failed seat parent silent f count =
    unless silent (shown parent (Error f) ∷ []) ++ replied seat channel.Shell parent (ExecuteReply (Failed count f))

abbrev pub ended : ℕ → Message → Bool → Ending → ℕ → List Entry
ended seat parent silent Completed count = replied seat channel.Shell parent (ExecuteReply (Done count))
ended seat parent silent (Trapped trap) count = failed seat parent silent (trap_failure trap) count
ended seat parent silent (Refused refusal) count = failed seat parent silent (refusal_failure refusal) count

-- what a mark shows of an execute request; the question for a line goes to the asker alone, also from a silent cell
abbrev pub shown_of : ℕ → Kind → Message → Execute → List Entry
shown_of seat (Begin count) parent e = begun parent e count
shown_of seat (Flush turns text) parent e = unless e.silent (streamed parent text)
shown_of seat Ask parent e = told (Seat seat) channel.Stdin parent InputRequest ∷ []
shown_of seat (Line text) parent e = []
shown_of seat (End ending count) parent e = ended seat parent e.silent ending count
shown_of seat (Stop turns why count) parent e = failed seat parent e.silent (cause_failure why) count
shown_of seat (Refuse count) parent e =
    shown parent (Status Busy) ∷ replied seat channel.Shell parent (ExecuteReply (Failed count (cause_failure cause.Memory)))
shown_of seat Abort parent e = shown parent (Status Busy) ∷ replied seat channel.Shell parent (ExecuteReply Aborted)
shown_of seat Join parent e = []
shown_of seat Leave parent e = []
shown_of seat (Answer status) parent e = []
shown_of seat Interrupt parent e = []
shown_of seat KernelInfo parent e = []
shown_of seat (Restart restart) parent e = []

-- what a mark shows of the execute request that arrived
abbrev pub execute_shown : ℕ → Kind → What → List Entry
execute_shown seat kind (what.Shell m) = option_or (shown_of seat kind m) [] (message_execute m)
execute_shown seat kind what.Join = []
execute_shown seat kind what.Leave = []
execute_shown seat kind (what.Control m) = []
execute_shown seat kind (what.Stdin m) = []

-- busy, the reply to the asker, and idle
abbrev pub answered : ℕ → Channel → Message → Output → List Entry
answered seat on parent output = shown parent (Status Busy) ∷ replied seat on parent output

-- what an answer shows of a request that is no cell
abbrev pub answer_shown : ℕ → Option Completeness → Message → Request → List Entry
answer_shown seat status parent q = option_or (answered seat channel.Shell parent) [] (reply_to q status)

abbrev pub query_shown : ℕ → Option Completeness → What → List Entry
query_shown seat status (what.Shell m) = option_or (answer_shown seat status m) [] (message_query m)
query_shown seat status what.Join = []
query_shown seat status what.Leave = []
query_shown seat status (what.Control m) = []
query_shown seat status (what.Stdin m) = []

-- what the answer of a control request shows
abbrev pub control_shown : ℕ → Output → What → List Entry
control_shown seat output (what.Control m) = answered seat channel.Control m output
control_shown seat output what.Join = []
control_shown seat output what.Leave = []
control_shown seat output (what.Shell m) = []
control_shown seat output (what.Stdin m) = []

-- a notice, to nobody
abbrev pub noticed : Told → Entry
noticed content = record { to = Nobody; channel = channel.Iopub; parent = None; content = content }

-- what a mark shows of what arrived
abbrev pub entries_of : Kind → Arrival → List Entry
entries_of Join a = noticed (told_as.Joined a.seat a.number) ∷ []
entries_of Leave a = noticed (told_as.Left a.seat a.number) ∷ []
entries_of (Begin count) a = execute_shown a.seat (Begin count) a.what
entries_of (Flush turns text) a = execute_shown a.seat (Flush turns text) a.what
entries_of Ask a = execute_shown a.seat Ask a.what
entries_of (Line text) a = execute_shown a.seat (Line text) a.what
entries_of (End ending count) a = execute_shown a.seat (End ending count) a.what
entries_of (Stop turns why count) a = execute_shown a.seat (Stop turns why count) a.what
entries_of (Refuse count) a = execute_shown a.seat (Refuse count) a.what
entries_of Abort a = execute_shown a.seat Abort a.what
entries_of (Answer status) a = query_shown a.seat status a.what
entries_of Interrupt a = control_shown a.seat InterruptReply a.what
entries_of KernelInfo a = control_shown a.seat KernelInfoReply a.what
entries_of (Restart restart) a = control_shown a.seat (ShutdownReply restart) a.what

-- what a mark after this part of the log shows
abbrev pub entries_at : Log → Mark → List Entry
entries_at past m = option_or (entries_of m.kind) [] (arrival_at m.at past)

-- the entries, mark by mark
abbrev pub render : Log → List Entry
render [] = []
render (Took a ∷ past) = render past
render (Marked m ∷ past) = render past ++ entries_at past m
