-- To be believed.
-- Which logs are legal: for each place, what stands there may follow the part before it.
use Rattle.std.specs.Prelude.{◌⊎◌, true, false, ◌≡◌, ℕ, ◌≤◌, List, [], ◌∷◌, ◌++◌, length, drop, map, Option, None, Some, slice_get, if◌then◌else◌}
use Rattle.jk_language.specs.declared.outcome.Outcome.{Outcome}
use Rattle.jk_language.specs.declared.outcome.Outcome.TheVariants as outcome
use Rattle.jk_language.specs.Spoken.{Spoken, refused_outcome}
use Rattle.jk_language.specs.declared.outcome.Turned.TheVariants as turned
use Rattle.jk_language.specs.Runs.{OutcomeIs}
use Rattle.jk_log.specs.declared.arrival.Sort.{Sort}
use Rattle.jk_log.specs.declared.arrival.Sort.TheVariants as sort
use Rattle.jp_msg.specs.declared.message.Execute.{Execute}
use Rattle.jk_log.specs.declared.arrival.Arrival.{Arrival}
use Rattle.jk_log.specs.Asked.{input_in, sort_as}
use Rattle.jk_log.specs.declared.mark.Item.{Item}
use Rattle.jk_log.specs.declared.mark.Item.TheVariants.{Took, Marked}
use Rattle.jk_log.specs.declared.mark.Mark.{Mark}
use Rattle.jk_log.specs.declared.mark.Kind.{Kind}
use Rattle.jk_log.specs.declared.mark.Kind.TheVariants.{Join, Leave, Begin, Flush, Ask, Line, End, Stop, Refuse, Abort, Answer, Interrupt, KernelInfo, Restart}
use Rattle.jk_log.specs.declared.mark.Ending.{Ending}
use Rattle.jk_log.specs.declared.mark.Ending.TheVariants.{Completed, Trapped, Refused}
use Rattle.jk_log.specs.declared.mark.Cause.{Cause}
use Rattle.jk_log.specs.declared.mark.Cause.TheVariants.{Memory, Interrupted, Restarted}
use Rattle.jp_msg.specs.declared.message.Completeness.{Completeness}
use Rattle.jp_msg.specs.declared.message.Request.{Request}
use Rattle.jk_log.specs.Queries.{IsStatus}
use Rattle.jk_log.specs.Log.{Log, Running, running, waiting, session, meaning, stood, count, next_count, execute_at, query_at, left, asker, ended}

-- a mark that must come before anything else
pub data Due : Type 0 where
  MarkDue : (at : ℕ) (kind : Kind) → Due
  AnswerDue : (at : ℕ) → Due
  FlushDue : Due
  StopDue : (cause : Cause) → Due

abbrev pub abort_due : ℕ → Due
abort_due at = MarkDue at Abort

-- a request that waits and is not begun any more: a cell is aborted, another request is answered
abbrev pub due_by : Option Execute → ℕ → Due
due_by (Some e) at = abort_due at
due_by None at = AnswerDue at

abbrev pub due_of : Log → ℕ → Due
due_of log at = due_by (execute_at at log) at

-- each request that waits, in the order taken
abbrev pub waiting_dues : Log → List Due
waiting_dues log = map (due_of log) (waiting log)

-- the marks that end the cell that runs
abbrev pub ends_due : Cause → Option Running → List Due
ends_due cause None = []
ends_due cause (Some r) = FlushDue ∷ StopDue cause ∷ []

-- the line for the cell that asks
abbrev pub line_due : Option (List ℕ) → Option ℕ → List Due
line_due None asker = []
line_due (Some text) None = []
line_due (Some text) (Some at) = MarkDue at (Line (Some text)) ∷ []

-- what an arrival after this part of the log owes
abbrev pub dues_of : Sort → Arrival → Log → List Due
dues_of sort.Join a past = MarkDue (length past) Join ∷ []
dues_of sort.Leave a past = MarkDue (length past) Leave ∷ []
dues_of sort.Interrupt a past = MarkDue (length past) Interrupt ∷ ends_due Interrupted (running past)
dues_of sort.Input a past = line_due (input_in a.what) (asker a.seat past)
dues_of sort.KernelInfo a past = MarkDue (length past) KernelInfo ∷ []
dues_of (sort.Shutdown restart) a past = ends_due Restarted (running past) ++ waiting_dues past ++ MarkDue (length past) (Restart restart) ∷ []
dues_of sort.Execute a past = []
dues_of sort.Query a past = []
dues_of sort.Other a past = []

-- after an error of a cell that stops on errors, each request that waits is aborted or answered
abbrev pub fails_due : Option Running → List Due → List Due
fails_due None waiting = []
fails_due (Some r) waiting = if r.request.stop_on_error then waiting else []

abbrev pub dues_after_end : Ending → Option Running → List Due → List Due
dues_after_end Completed r waiting = []
dues_after_end (Trapped trap) r waiting = fails_due r waiting
dues_after_end (Refused refusal) r waiting = fails_due r waiting

-- a shutdown owes these already
abbrev pub dues_after_stop : Cause → Option Running → List Due → List Due
dues_after_stop Memory r waiting = fails_due r waiting
dues_after_stop Interrupted r waiting = fails_due r waiting
dues_after_stop Restarted r waiting = []

abbrev pub dues_after : Kind → Option Running → List Due → List Due
dues_after (End ending n) r waiting = dues_after_end ending r waiting
dues_after (Stop turns cause n) r waiting = dues_after_stop cause r waiting
dues_after Join r waiting = []
dues_after Leave r waiting = []
dues_after (Begin n) r waiting = []
dues_after (Flush turns text) r waiting = []
dues_after Ask r waiting = []
dues_after (Line text) r waiting = []
dues_after (Refuse n) r waiting = []
dues_after Abort r waiting = []
dues_after Interrupt r waiting = []
dues_after (Answer status) r waiting = []
dues_after KernelInfo r waiting = []
dues_after (Restart restart) r waiting = []

-- the marks that are owed, in their order
abbrev pub owed : Log → List Due
owed [] = []
owed (Took a ∷ past) = dues_of (sort_as a.what) a past
owed (Marked m ∷ past) = drop 1 (owed past) ++ dues_after m.kind (running past) (waiting_dues past)

abbrev pub JustFlushedBy : Kind → Type 0
JustFlushedBy (Flush turns text) = Unit {0}
JustFlushedBy Join = ⊥
JustFlushedBy Leave = ⊥
JustFlushedBy Ask = ⊥
JustFlushedBy (Line text) = ⊥
JustFlushedBy (Begin count) = ⊥
JustFlushedBy (End ending count) = ⊥
JustFlushedBy (Stop turns cause count) = ⊥
JustFlushedBy (Refuse count) = ⊥
JustFlushedBy Abort = ⊥
JustFlushedBy (Answer status) = ⊥
JustFlushedBy Interrupt = ⊥
JustFlushedBy KernelInfo = ⊥
JustFlushedBy (Restart restart) = ⊥

-- the last item is a flush
abbrev pub JustFlushed : Log → Type 0
JustFlushed [] = ⊥
JustFlushed (Took a ∷ past) = ⊥
JustFlushed (Marked m ∷ past) = JustFlushedBy m.kind

-- the first that waits, an execute request, where no cell runs
pub record IsNext (past : Log) (at : ℕ) : Type 0 where
  pub idle : running past ≡ None
  pub first : slice_get (waiting past) 0 ≡ Some at
  pub request : Execute
  pub there : execute_at at past ≡ Some request

-- the first that waits, where no cell runs
pub record IsFirst (past : Log) (at : ℕ) : Type 0 where
  pub idle : running past ≡ None
  pub first : slice_get (waiting past) 0 ≡ Some at

-- a request that is no cell is answered with its status
pub record Answers {S T : Type 0} (spoken : Spoken S T) (past : Log) (at : ℕ) (status : Option Completeness) : Type 0 where
  pub request : Request
  pub there : query_at at past ≡ Some request
  pub right : IsStatus spoken request status

-- a flush at a number of turns shows the output since the last one, with the lines so far
pub record Flushes {S T : Type 0} (spoken : Spoken S T) (past : Log) (r : Running) (at turns : ℕ) (text : List ℕ) : Type 0 where
  pub request : at ≡ r.at
  pub onward : r.turns ≤ turns
  pub used : (meaning spoken past r turns).turns ≡ turns
  pub shown : text ≡ drop (length (stood spoken past r).output) (meaning spoken past r turns).output

-- an ending tells what the meaning comes to
abbrev pub EndsSo : {S T : Type 0} → Spoken S T → S → List ℕ → Outcome → Ending → Type 0
EndsSo spoken session code o Completed = o ≡ outcome.Ended
EndsSo spoken session code o (Trapped trap) = o ≡ outcome.Trapped trap
EndsSo spoken session code o (Refused refusal) = (o ≡ refused_outcome refusal) × spoken.IsRefusedFor session code refusal

pub record Ends {S T : Type 0} (spoken : Spoken S T) (past : Log) (r : Running) (at : ℕ) (ending : Ending) (n : ℕ) : Type 0 where
  pub request : at ≡ r.at
  pub flushed : JustFlushed past
  pub outcome : EndsSo spoken (session spoken past) r.request.code (stood spoken past r).outcome ending
  pub counted : n ≡ count past

-- a turn was next, and none was left
abbrev pub IsStopped : Outcome → Type 0
IsStopped o = OutcomeIs turned.Stopped o

-- A cell is stopped where its meaning is. For lack of memory that is before a turn that may want it: there alone the
-- machine answers NoMemory. An interrupt or a shutdown stops it also where it needs a line.
abbrev pub StopsFor : Cause → Outcome → Type 0
StopsFor Memory o = OutcomeIs turned.NoMemory o
StopsFor Interrupted o = IsStopped o ⊎ (o ≡ outcome.NeedsLine)
StopsFor Restarted o = IsStopped o ⊎ (o ≡ outcome.NeedsLine)

pub record Stops {S T : Type 0} (spoken : Spoken S T) (past : Log) (r : Running) (at turns : ℕ) (cause : Cause) (n : ℕ) : Type 0 where
  pub request : at ≡ r.at
  pub flushed : JustFlushed past
  pub here : turns ≡ r.turns
  pub outcome : StopsFor cause (stood spoken past r).outcome
  pub counted : n ≡ count past

-- a cell that did not ask may ask its seat
pub record MayAsk (past : Log) (r : Running) : Type 0 where
  pub free : r.asked ≡ false
  pub allowed : r.request.allow_stdin ≡ true
  pub here : left r.seat r.at past ≡ false

pub record Asks {S T : Type 0} (spoken : Spoken S T) (past : Log) (r : Running) (at : ℕ) : Type 0 where
  pub request : at ≡ r.at
  pub flushed : JustFlushed past
  pub outcome : (stood spoken past r).outcome ≡ outcome.NeedsLine
  pub may : MayAsk past r

-- there is no line to be had
abbrev pub IsLineless : Log → Running → Type 0
IsLineless past r = (r.request.allow_stdin ≡ false) ⊎ (left r.seat r.at past ≡ true)

-- the cell needs a line at n turns, with those so far, and there is none to be had
abbrev pub Lacks : {S T : Type 0} → Spoken S T → Log → Running → ℕ → Type 0
Lacks spoken past r n = ((meaning spoken past r n).outcome ≡ outcome.NeedsLine) × IsLineless past r

-- what may come where nothing is owed
abbrev pub MayCome : {S T : Type 0} → Spoken S T → Log → ℕ → Kind → Type 0
MayCome spoken past at Join = ⊥
MayCome spoken past at Leave = ⊥
MayCome spoken past at (Line (Some text)) = ⊥
MayCome spoken past at Abort = ⊥
MayCome spoken past at Interrupt = ⊥
MayCome spoken past at KernelInfo = ⊥
MayCome spoken past at (Restart restart) = ⊥
MayCome spoken past at (Begin n) = IsNext past at × (n ≡ next_count at past)
MayCome spoken past at (Answer status) = IsFirst past at × Answers spoken past at status
MayCome spoken past at (Refuse n) = IsNext past at × (n ≡ count past)
MayCome spoken past at (Flush turns text) = (r : Running) × (running past ≡ Some r) × Flushes spoken past r at turns text
MayCome spoken past at Ask = (r : Running) × (running past ≡ Some r) × Asks spoken past r at
MayCome spoken past at (Line None) = (r : Running) × (running past ≡ Some r) × (at ≡ r.at) × (n : ℕ) × Lacks spoken past r n
MayCome spoken past at (End ending n) = (r : Running) × (running past ≡ Some r) × Ends spoken past r at ending n
MayCome spoken past at (Stop turns cause n) = (cause ≡ Memory) × (r : Running) × (running past ≡ Some r) × Stops spoken past r at turns cause n

-- the marks that stand only where they are due
abbrev pub IsForced : Kind → Type 0
IsForced Join = Unit {0}
IsForced Leave = Unit {0}
IsForced Abort = Unit {0}
IsForced Interrupt = Unit {0}
IsForced KernelInfo = Unit {0}
IsForced (Restart restart) = Unit {0}
IsForced (Line (Some text)) = Unit {0}
IsForced (Line None) = ⊥
IsForced (Answer status) = ⊥
IsForced Ask = ⊥
IsForced (Begin n) = ⊥
IsForced (Flush turns text) = ⊥
IsForced (End ending n) = ⊥
IsForced (Stop turns cause n) = ⊥
IsForced (Refuse n) = ⊥

-- the mark is the one that is due
abbrev pub Settles : {S T : Type 0} → Spoken S T → Log → Due → Mark → Type 0
Settles spoken past (MarkDue at kind) m = (m ≡ record { at = at; kind = kind }) × IsForced kind
Settles spoken past (AnswerDue at) m =
    (status : Option Completeness) × (m ≡ record { at = at; kind = Answer status }) × Answers spoken past at status
Settles spoken past FlushDue m = JustFlushedBy m.kind × MayCome spoken past m.at m.kind
Settles spoken past (StopDue cause) m =
    (turns n : ℕ) × (m.kind ≡ Stop turns cause n) × ((r : Running) × (running past ≡ Some r) × Stops spoken past r m.at turns cause n)

abbrev pub MayMark : {S T : Type 0} → Spoken S T → Log → List Due → Mark → Type 0
MayMark spoken past [] m = MayCome spoken past m.at m.kind
MayMark spoken past (due ∷ dues) m = Settles spoken past due m

-- The item may follow the part before it. An arrival is taken only where nothing is owed, and the kernel was not shut down.
abbrev pub MayFollow : {S T : Type 0} → Spoken S T → Log → Item → Type 0
MayFollow spoken past (Took a) = (owed past ≡ []) × (ended past ≡ false)
MayFollow spoken past (Marked m) = MayMark spoken past (owed past) m

abbrev pub EachFollows : {S T : Type 0} → Spoken S T → Log → Type 0
EachFollows spoken [] = Unit {0}
EachFollows spoken (e ∷ past) = EachFollows spoken past × MayFollow spoken past e

-- each item may follow the part before it, and nothing is owed
pub record IsLegal {S T : Type 0} (spoken : Spoken S T) (log : Log) : Type 0 where
  pub each : EachFollows spoken log
  pub settled : owed log ≡ []
