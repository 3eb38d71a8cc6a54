-- To be believed.
-- How a kernel moves.
use Rattle.std.specs.Prelude.{zero, suc, true, not, is_some, ◌&&◌, ◌≤◌, ◌≢◌, ◌≡◌, ℕ, Bool, false, if◌then◌else◌, ◌+◌, ◌-◌, ◌^◌, min, List, [], ◌∷◌, ◌++◌, length, drop, Option, None, Some, ◌⊎◌, nat_lt, find, slice_get, slice_set}
use Rattle.jk_language.specs.declared.outcome.Outcome.TheVariants as outcome
use Rattle.jk_language.specs.declared.outcome.Refusal.{Refusal}
use Rattle.jk_language.specs.declared.outcome.Refusal.TheVariants.{Compile}
use Rattle.jk_language.specs.Parts.{Line as Given}
use Rattle.jk_language.specs.Spoken.{Spoken}
use Rattle.jk_language.specs.declared.outcome.Turned.{Turned}
use Rattle.jk_language.specs.declared.outcome.Turned.TheVariants as turned
use Rattle.jk_language.specs.Runs.{IsGiven, OutcomeIs}
use Rattle.jp_msg.specs.declared.message.Execute.{Execute}
use Rattle.jk_log.specs.declared.arrival.Arrival.{Arrival}
use Rattle.jk_log.specs.declared.arrival.Sort.{Sort}
use Rattle.jk_log.specs.declared.arrival.Sort.TheVariants as sort
use Rattle.jp_msg.specs.declared.message.Completeness.{Completeness}
use Rattle.jk_log.specs.Asked.{query_in, input_in, sort_as}
use Rattle.jk_log.specs.Queries.{IsStatusOf}
use Rattle.jk_log.specs.declared.job.Job.{Job}
use Rattle.jk_log.specs.Results.{Reading}
use Rattle.jk_core.specs.declared.kernel.Used.{Used}
use Rattle.jk_core.specs.declared.kernel.Used.TheVariants.{Kept, Stranger}
use Rattle.jk_log.specs.declared.job.Parsed.{Parsed}
use Rattle.jk_log.specs.declared.job.Parsed.TheVariants as parsed
use Rattle.jk_log.specs.declared.mark.Item.TheVariants.{Took, Marked}
use Rattle.jk_log.specs.declared.mark.Kind.{Kind}
use Rattle.jk_log.specs.declared.mark.Kind.TheVariants.{Join, Leave, Begin, Flush, Ask, Line, End, Stop, Refuse, Abort, Answer, Interrupt, KernelInfo, Restart}
use Rattle.jk_log.specs.declared.mark.Ending.TheVariants as ending
use Rattle.jk_log.specs.declared.mark.Cause.{Cause}
use Rattle.jk_log.specs.declared.mark.Cause.TheVariants as cause
use Rattle.jk_core.specs.declared.kernel.Work.{Work}
use Rattle.jk_core.specs.declared.kernel.Work.TheVariants.{Rest, NeedsParse, Ran, NeedsLine, NoMemory}
use Rattle.jk_core.specs.declared.script.Waiting.{Waiting}
use Rattle.jk_core.specs.declared.script.Task.{Task}
use Rattle.jk_core.specs.declared.script.Task.TheVariants.{Cell, Query}
use Rattle.jk_log.specs.Log.{Log, Running, running, session, meaning, stood, lined, left, asker, count, next_count, arrivals, ended, execute_at, option_with, option_or}
use Rattle.jk_log.specs.Legal.{MayAsk, Lacks}
use Rattle.jk_log.specs.Render.{entries_at}
use Rattle.jk_core.specs.State.{KernelState, is_cell}

-- the turns of the cell that runs, after a mark
abbrev pub ran_after : Kind → ℕ → ℕ
ran_after (Begin count) ran = 0
ran_after (Flush turns text) ran = turns
ran_after Join ran = ran
ran_after Leave ran = ran
ran_after Ask ran = ran
ran_after (Line text) ran = ran
ran_after (End ending count) ran = ran
ran_after (Stop turns cause count) ran = ran
ran_after (Refuse count) ran = ran
ran_after Abort ran = ran
ran_after (Answer status) ran = ran
ran_after Interrupt ran = ran
ran_after KernelInfo ran = ran
ran_after (Restart restart) ran = ran

-- one more mark, whose entries are now pending
abbrev pub noted : {T : Type 0} → ℕ → Kind → KernelState T → KernelState T
noted at kind k = record {
  log = Marked (record { at = at; kind = kind }) ∷ k.log;
  pending = k.pending ++ entries_at k.log (record { at = at; kind = kind }) ∷ [];
  waits = k.waits;
  given = k.given;
  ran = ran_after kind k.ran;
}

-- what an arrival adds to what waits; a query waits with the status that it will be answered
abbrev pub waits_with : {T : Type 0} → Option Completeness → Sort → ℕ → ℕ → List (Waiting T)
waits_with status sort.Execute at number = record { at = at; number = number; task = Cell None } ∷ []
waits_with status sort.Query at number = record { at = at; number = number; task = Query status } ∷ []
waits_with status sort.Join at number = []
waits_with status sort.Leave at number = []
waits_with status sort.Input at number = []
waits_with status sort.Interrupt at number = []
waits_with status sort.KernelInfo at number = []
waits_with status (sort.Shutdown restart) at number = []
waits_with status sort.Other at number = []

-- the same kernel, where these wait
abbrev pub with_waits : {T : Type 0} → List (Waiting T) → KernelState T → KernelState T
with_waits ws k = record { log = k.log; pending = k.pending; waits = ws; given = k.given; ran = k.ran }

-- one more arrival, which may wait
abbrev pub took : {T : Type 0} → Option Completeness → Arrival → KernelState T → KernelState T
took status a k = record {
  log = Took a ∷ k.log;
  pending = k.pending;
  waits = k.waits ++ waits_with status (sort_as a.what) (length k.log) (arrivals k.log + 1);
  given = k.given;
  ran = k.ran;
}

-- the mark of a request that waits and is not begun any more: a cell is aborted, a query is answered
abbrev pub closing : {T : Type 0} → Task T → Kind
closing (Cell result) = Abort
closing (Query status) = Answer status

-- each of these, which wait, is aborted or answered
abbrev pub aborting : {T : Type 0} → List (Waiting T) → KernelState T → KernelState T
aborting [] k = k
aborting (w ∷ ws) k = aborting ws (noted w.at (closing w.task) (with_waits ws k))

-- what follows an error of a cell
abbrev pub failing : {T : Type 0} → Bool → KernelState T → KernelState T
failing stops k = if stops then aborting k.waits k else k

-- the cell that runs is stopped where it stands
abbrev pub stopped : {T : Type 0} → Cause → Option Running → KernelState T → KernelState T
stopped cause None k = k
stopped cause (Some r) k = noted r.at (Stop k.ran cause (count k.log)) (noted r.at (Flush k.ran []) k)

abbrev pub stops_with : Option Running → Bool
stops_with None = false
stops_with (Some r) = r.request.stop_on_error

-- an interrupt stops the cell that runs, which is an error
abbrev pub interrupted : {T : Type 0} → Option Running → KernelState T → KernelState T
interrupted o k = failing (stops_with o) (stopped cause.Interrupted o k)

-- A shutdown stops the cell that runs, and aborts or answers all that waits; then the kernel starts anew, or has ended.
abbrev pub shut : {T : Type 0} → ℕ → Bool → Option Running → KernelState T → KernelState T
shut at restart o k = noted at (Restart restart) (aborting k.waits (stopped cause.Restarted o k))

-- the line for the cell that asks
abbrev pub given_to : {T : Type 0} → Option (List ℕ) → Option ℕ → KernelState T → KernelState T
given_to None asker k = k
given_to (Some text) None k = k
given_to (Some text) (Some at) k = noted at (Line (Some text)) k

-- the marks of an arrival that was taken after this part of the log
abbrev pub answered : {T : Type 0} → Sort → Arrival → Log → KernelState T → KernelState T
answered sort.Join a past k = noted (length past) Join k
answered sort.Leave a past k = noted (length past) Leave k
answered sort.Interrupt a past k = interrupted (running k.log) (noted (length past) Interrupt k)
answered sort.KernelInfo a past k = noted (length past) KernelInfo k
answered (sort.Shutdown restart) a past k = shut (length past) restart (running k.log) k
answered sort.Input a past k = given_to (input_in a.what) (asker a.seat past) k
answered sort.Execute a past k = k
answered sort.Query a past k = k
answered sort.Other a past k = k

-- an arrival is taken, with the marks that stand directly after it; the status is that of a query, if it is one
abbrev pub taken : {T : Type 0} → Option Completeness → Arrival → KernelState T → KernelState T
taken status a k = answered (sort_as a.what) a k.log (took status a k)

-- What taking an arrival does. Once the kernel was shut down, and not to start again, the arrival is dropped.
abbrev pub Takes : {S T : Type 0} → Spoken S T → Arrival → KernelState T → KernelState T → Type 0
Takes spoken a old new =
    ((ended old.log ≡ true) × (new ≡ old))
    ⊎ ((ended old.log ≡ false) × (status : Option Completeness) × IsStatusOf spoken (query_in a.what) status × (new ≡ taken status a old))

abbrev pub begun : {T : Type 0} → ℕ → KernelState T → KernelState T
begun at k = noted at (Begin (next_count at k.log)) k

-- the same kernel, where the cell that runs has gone on to so many turns
abbrev pub with_ran : {T : Type 0} → ℕ → KernelState T → KernelState T
with_ran ran k = record { log = k.log; pending = k.pending; waits = k.waits; given = k.given; ran = ran }

-- whether a line was given
abbrev pub has_lines : List Given → Bool
has_lines [] = false
has_lines (line ∷ lines) = true

-- a cell goes on: where it wrote nothing and read no line, nothing is marked
abbrev pub gone_on : {T : Type 0} → Bool → ℕ → ℕ → List ℕ → KernelState T → KernelState T
gone_on read at turns (c ∷ text) k = noted at (Flush turns (c ∷ text)) k
gone_on read at turns [] k = if read then noted at (Flush turns []) k else with_ran turns k

-- what a slice wrote is flushed, and always so where the cell asks or no cell runs after it
abbrev pub flushed : {T : Type 0} → Turned → Bool → ℕ → ℕ → List ℕ → KernelState T → KernelState T
flushed turned.Stopped read at turns text k = gone_on read at turns text k
flushed turned.Ended read at turns text k = noted at (Flush turns text) k
flushed (turned.Trapped trap) read at turns text k = noted at (Flush turns text) k
flushed turned.NeedsLine read at turns text k = noted at (Flush turns text) k
flushed turned.NoMemory read at turns text k = noted at (Flush turns text) k

-- the end of a slice, by the machine's answer
abbrev pub closed : {T : Type 0} → Turned → ℕ → Bool → ℕ → ℕ → KernelState T → KernelState T
closed turned.Stopped at stops turns count k = k
closed turned.Ended at stops turns count k = noted at (End ending.Completed count) k
closed (turned.Trapped trap) at stops turns count k = failing stops (noted at (End (ending.Trapped trap) count) k)
closed turned.NeedsLine at stops turns count k = noted at Ask k
closed turned.NoMemory at stops turns count k = failing stops (noted at (Stop turns cause.Memory count) k)

-- the output at n turns after that of the last flush
abbrev pub written : {S T : Type 0} → Spoken S T → Log → Running → ℕ → List ℕ
written spoken log r n = drop (length (stood spoken log r).output) (meaning spoken log r n).output

-- what a cell wrote in n turns in all is flushed, by the machine's answer
abbrev pub written_out : {S T : Type 0} → Spoken S T → Turned → Running → ℕ → KernelState T → KernelState T
written_out spoken answer r n k = flushed answer (has_lines r.fresh) r.at (meaning spoken k.log r n).turns (written spoken k.log r n) k

-- a slice to n turns in all
abbrev pub sliced : {S T : Type 0} → Spoken S T → Turned → Running → ℕ → KernelState T → KernelState T
sliced spoken answer r n k =
    closed answer r.at r.request.stop_on_error (meaning spoken k.log r n).turns (count k.log) (written_out spoken answer r n k)

-- the turns of a slice: a cell uses at most 2^64 - 1 in all
abbrev pub allowed : ℕ → ℕ → ℕ
allowed before turns = min turns (2 ^ 64 - 1 - before)

-- how many turns a cell may have used at the end of a slice
abbrev pub limit : {T : Type 0} → ℕ → KernelState T → ℕ
limit turns k = k.ran + allowed k.ran turns

-- So often the cell needed a line within n turns and there was none to be had: from one cell and kernel to the next.
abbrev pub GoesWithout : {S T : Type 0} → Spoken S T → ℕ → ℕ → Running → KernelState T → Running → KernelState T → Type 0
GoesWithout spoken zero n r old now new = (now ≡ r) × (new ≡ old)
GoesWithout spoken (suc more) n r old now new =
    Lacks spoken old.log r n × GoesWithout spoken more n (lined None r) (noted r.at (Line None) old) now new

-- The end of a slice of at most n turns in all, by what work answers. All turns were there, or fewer where memory was
-- refused to a cell that could go on. A cell asks where it may; where a line is not to be had and the log has no room to
-- say so, the cell stands there.
abbrev pub Closes : {S T : Type 0} → Spoken S T → ℕ → Running → KernelState T → Work → KernelState T → Type 0
Closes spoken n r old Rest new = ⊥
Closes spoken n r old NeedsParse new = ⊥
Closes spoken n r old Ran new =
    (answer : Turned) × (turns : ℕ) × (answer ≢ turned.NeedsLine) × (old.ran ≤ turns) × IsGiven answer n turns
    × OutcomeIs answer (meaning spoken old.log r turns).outcome × (new ≡ sliced spoken answer r turns old)
Closes spoken n r old NeedsLine new =
    MayAsk old.log r × ((meaning spoken old.log r n).outcome ≡ outcome.NeedsLine) × (new ≡ sliced spoken turned.NeedsLine r n old)
Closes spoken n r old NoMemory new = Lacks spoken old.log r n × (new ≡ written_out spoken turned.NeedsLine r n old)

-- the cell that runs goes on
abbrev pub GoesOn : {S T : Type 0} → Spoken S T → ℕ → Running → KernelState T → Work → KernelState T → Type 0
GoesOn {T = T} spoken turns r old work new =
    (nones : ℕ) × (now : Running) × (k : KernelState T)
    × GoesWithout spoken nones (limit turns old) r old now k × Closes spoken (limit turns old) now k work new

-- whether an error of the request at a place aborts what waits
abbrev pub stops_at : ℕ → Log → Bool
stops_at at log = option_or (λ (e : Execute). e.stop_on_error) false (execute_at at log)

-- whether the request at a place allows input
abbrev pub allows_at : ℕ → Log → Bool
allows_at at log = option_or (λ (e : Execute). e.allow_stdin) false (execute_at at log)

-- the request at a place begins, and ends at once, since its text is refused by compiling or its commands do not link
abbrev pub broken : {T : Type 0} → ℕ → Refusal → KernelState T → KernelState T
broken at refusal k =
    failing (stops_at at k.log) (noted at (End (ending.Refused refusal) (next_count at k.log)) (noted at (Flush 0 []) (begun at k)))

-- the request at a place does not run for this
pub record IsBrokenAt {S T : Type 0} (spoken : Spoken S T) (at : ℕ) (refusal : Refusal) (log : Log) : Type 0 where
  pub request : Execute
  pub there : execute_at at log ≡ Some request
  pub breaks : spoken.IsRefusedFor (session spoken log) request.code refusal

-- the request at a place begins, and goes on
abbrev pub BeginsAt : {S T : Type 0} → Spoken S T → ℕ → ℕ → KernelState T → Work → KernelState T → Type 0
BeginsAt spoken turns at old work new =
    (r : Running) × (running (begun at old).log ≡ Some r) × GoesOn spoken turns r (begun at old) work new

-- what comes of the first that waits, by its result
abbrev pub Starts : {S T : Type 0} → Spoken S T → ℕ → ℕ → Option (Parsed T) → KernelState T → Work → KernelState T → Type 0
Starts spoken turns at None old work new = ⊥
Starts spoken turns at (Some parsed.Memory) old work new = (work ≡ Ran) × (new ≡ noted at (Refuse (count old.log)) old)
Starts spoken turns at (Some (parsed.Fault fault)) old work new = (work ≡ Ran) × (new ≡ broken at (Compile fault) old)
Starts spoken turns at (Some (parsed.Tree cell)) old work new =
    BeginsAt spoken turns at old work new
    ⊎ ((refusal : Refusal) × IsBrokenAt spoken at refusal old.log × (work ≡ Ran) × (new ≡ broken at refusal old))

abbrev pub StartsAs : {S T : Type 0} → Spoken S T → ℕ → ℕ → Task T → KernelState T → Work → KernelState T → Type 0
StartsAs spoken turns at (Cell result) old work new = Starts spoken turns at result old work new
StartsAs spoken turns at (Query status) old work new = ⊥

abbrev pub StartsFirst : {S T : Type 0} → Spoken S T → ℕ → List (Waiting T) → KernelState T → Work → KernelState T → Type 0
StartsFirst spoken turns [] old work new = ⊥
StartsFirst spoken turns (w ∷ ws) old work new = StartsAs spoken turns w.at w.task (with_waits ws old) work new

-- the first that waits is a cell that has no result
abbrev pub FirstUnread : {T : Type 0} → List (Waiting T) → Type 0
FirstUnread [] = ⊥
FirstUnread (w ∷ ws) = w.task ≡ Cell None

-- the first that waits is a query
abbrev pub FirstAsks : {T : Type 0} → List (Waiting T) → Type 0
FirstAsks [] = ⊥
FirstAsks (w ∷ ws) = is_cell w.task ≡ false

abbrev pub by_task : {A T : Type 0} → Task T → (Option (Parsed T) → A) → (Option Completeness → A) → A
by_task (Cell result) cell query = cell result
by_task (Query status) cell query = query status

-- the queries that wait before the first cell are answered
abbrev pub answering : {T : Type 0} → List (Waiting T) → KernelState T → KernelState T
answering [] k = k
answering (w ∷ ws) k = by_task w.task (λ result. k) (λ status. answering ws (noted w.at (Answer status) (with_waits ws k)))

-- a cell asked, has no line yet, and its seat is here
abbrev pub IsAsking : Log → Type 0
IsAsking log = (r : Running) × (running log ≡ Some r) × (r.asked ≡ true) × (left r.seat r.at log ≡ false)

-- nothing waits, or the first that waits is a cell without a result
abbrev pub NoneStarts : {T : Type 0} → List (Waiting T) → Type 0
NoneStarts [] = Unit {0}
NoneStarts (w ∷ ws) = w.task ≡ Cell None

-- The queries before the first cell are answered, if there are any, and that cell starts where it has its result.
abbrev pub AnswersFirst : {S T : Type 0} → Spoken S T → ℕ → KernelState T → Work → KernelState T → Type 0
AnswersFirst spoken turns old work new =
    StartsFirst spoken turns (answering old.waits old).waits (answering old.waits old) work new
    ⊎ (FirstAsks old.waits × NoneStarts (answering old.waits old).waits × (work ≡ Ran) × (new ≡ answering old.waits old))

-- the cell that runs goes on, or what waits is answered and the first cell starts
abbrev pub Moves : {S T : Type 0} → Spoken S T → ℕ → KernelState T → Work → KernelState T → Type 0
Moves spoken turns old work new =
    ((r : Running) × (running old.log ≡ Some r) × GoesOn spoken turns r old work new)
    ⊎ ((running old.log ≡ None) × AnswersFirst spoken turns old work new)

-- What one call of work does, by its answer. Where memory is wanting nothing has changed, but for a cell that went on to
-- where it lacks a line.
abbrev pub Works : {S T : Type 0} → Spoken S T → ℕ → KernelState T → Work → KernelState T → Type 0
Works spoken turns old Rest new = (new ≡ old) × (running old.log ≡ None) × (old.waits ≡ [])
Works spoken turns old NeedsParse new = (new ≡ old) × (running old.log ≡ None) × FirstUnread old.waits
Works spoken turns old NoMemory new = (new ≡ old) ⊎ Moves spoken turns old NoMemory new
Works spoken turns old NeedsLine new = IsAsking new.log × ((new ≡ old) ⊎ Moves spoken turns old NeedsLine new)
Works spoken turns old Ran new = Moves spoken turns old Ran new

abbrev pub none_waits : {T : Type 0} → List (Waiting T) → Bool
none_waits [] = true
none_waits (w ∷ ws) = false

-- no cell runs, and nothing waits
abbrev pub is_at_rest : {T : Type 0} → KernelState T → Bool
is_at_rest k = not (is_some (running k.log)) && none_waits k.waits

abbrev pub code_at : ℕ → Log → Option (List ℕ)
code_at at log = option_with (λ (e : Execute). e.code) (execute_at at log)

-- the first cell whose number is past those of the jobs given
abbrev pub first_after : {T : Type 0} → ℕ → List (Waiting T) → Option (Waiting T)
first_after given ws = find (λ w. is_cell w.task && nat_lt given w.number) ws

abbrev pub with_given : {T : Type 0} → ℕ → KernelState T → KernelState T
with_given given k = record { log = k.log; pending = k.pending; waits = k.waits; given = given; ran = k.ran }

-- each cell that waits is given once, in their order
abbrev pub GivesJob : {T : Type 0} → KernelState T → Option Job → KernelState T → Type 0
GivesJob old None new = (first_after old.given old.waits ≡ None) × (new ≡ old)
GivesJob {T = T} old (Some job) new =
    (w : Waiting T) × (first_after old.given old.waits ≡ Some w)
    × (job.number ≡ w.number) × (code_at w.at old.log ≡ Some job.text) × (new ≡ with_given w.number old)

-- the cell that waits has that number, exactly that text and no result yet
pub record CanKeep {T : Type 0} (log : Log) (job : ℕ) (read : List ℕ) (w : Waiting T) : Type 0 where
  pub number : w.number ≡ job
  pub text : code_at w.at log ≡ Some read
  pub unread : w.task ≡ Cell None

abbrev pub with_result : {T : Type 0} → Parsed T → Waiting T → Waiting T
with_result outcome w = record { at = w.at; number = w.number; task = Cell (Some outcome) }

-- a result is kept exactly where a request can keep it
abbrev pub Hands : {T : Type 0} → Reading T → KernelState T → Used (Reading T) → KernelState T → Type 0
Hands {T = T} p old Kept new =
    (i : ℕ) × (w : Waiting T) × (slice_get old.waits i ≡ Some w) × CanKeep old.log p.job p.text w
    × (new ≡ with_waits (slice_set old.waits i (with_result p.outcome w)) old)
Hands {T = T} p old (Stranger back) new =
    (back ≡ p) × (new ≡ old) × ((i : ℕ) (w : Waiting T) → slice_get old.waits i ≡ Some w → CanKeep old.log p.job p.text w → ⊥)

-- so many of the pending marks were handed on
abbrev pub without : {T : Type 0} → ℕ → KernelState T → KernelState T
without marks k = record { log = k.log; pending = drop marks k.pending; waits = k.waits; given = k.given; ran = k.ran }
