-- What a kernel keeps true.
use Rattle.std.specs.Prelude.{◌⊎◌, ◌≡◌, Bool, true, false, not, ◌&&◌, ℕ, ◌≤◌, is_some, find, List, [], ◌∷◌, length, map, Option, None, Some}
use Rattle.jk_language.specs.declared.outcome.Refusal.TheVariants.{Compile}
use Rattle.jk_log.specs.declared.arrival.Arrival.{Arrival}
use Rattle.jk_log.specs.declared.arrival.Sort.{Sort}
use Rattle.jk_log.specs.Asked.{input_in}
use Rattle.jk_log.specs.declared.arrival.Sort.TheVariants as sort
use Rattle.jk_log.specs.declared.mark.Kind.TheVariants.{Interrupt, Join, KernelInfo, Leave, Line}
use Rattle.jk_language.specs.Parts.{Line as AsLine}
use Rattle.jk_language.specs.Spoken.{Spoken}
use Rattle.jk_language.specs.MachineState.{MachineState, here}
use Rattle.jk_language.specs.Beginning.{IsFresh}
use Rattle.jp_msg.specs.declared.message.Execute.{Execute}
use Rattle.jk_log.specs.declared.job.Parsed.{Parsed}
use Rattle.jk_log.specs.declared.job.Parsed.TheVariants as parsed
use Rattle.jk_core.specs.declared.script.Waiting.{Waiting}
use Rattle.jk_core.specs.declared.script.Task.{Task}
use Rattle.jk_core.specs.declared.script.Task.TheVariants.{Cell, Query}
use Rattle.jk_core.specs.declared.desk.Active.{Active}
use Rattle.jk_core.specs.declared.desk.Wants.{Wants}
use Rattle.jk_core.specs.declared.desk.Wants.TheVariants.{Nothing, Asked, Given}
use Rattle.jk_log.specs.declared.mark.Cause.TheVariants.{Interrupted}
use Rattle.jk_core.specs.declared.desk.Place.{Place}
use Rattle.jk_core.specs.declared.desk.Place.TheVariants.{Resting, Running as Runs}
use Rattle.jk_core.specs.declared.desk.Desk.{Desk}
use Rattle.jk_core.specs.declared.start.Opening.{Opening}
use Rattle.jk_core.specs.declared.start.Opening.TheVariants as opening
use Rattle.jk_log.specs.Results.{IsResult}
use Rattle.jk_log.specs.Log.{Log, option_or, Running, running, waiting, session, shown_in, stood_in, nones, left, count, execute_at}
use Rattle.jk_log.specs.Legal.{Answers, EachFollows, Due, owed, StopsFor}
use Rattle.jk_core.specs.State.{KernelState, is_cell}
use Rattle.jk_core.specs.Steps.{by_task, has_lines, interrupted, noted, shut, AnswersFirst}
use Rattle.jk_core.specs.declared.kernel.Work.{Work}
use Rattle.jk_core.specs.declared.kernel.Work.TheVariants.{NoMemory}
use Rattle.jk_language.specs.declared.outcome.Outcome.TheVariants as outcome

abbrev pub IsResultOf : {S T : Type 0} → Spoken S T → List ℕ → Option (Parsed T) → Type 0
IsResultOf spoken text None = Unit {0}
IsResultOf spoken text (Some outcome) = IsResult spoken text outcome

-- the place has an execute request, and the result is one of its code
pub record IsCellAt {S T : Type 0} (spoken : Spoken S T) (log : Log) (at : ℕ) (result : Option (Parsed T)) : Type 0 where
  pub request : Execute
  pub there : execute_at at log ≡ Some request
  pub right : IsResultOf spoken request.code result

-- what waits is a cell, or a query with the status that it will be answered
abbrev pub IsTaskAt : {S T : Type 0} → Spoken S T → Log → ℕ → Task T → Type 0
IsTaskAt spoken log at (Cell result) = IsCellAt spoken log at result
IsTaskAt spoken log at (Query status) = Answers spoken log at status

abbrev pub IsWaiting : {S T : Type 0} → Spoken S T → Log → Waiting T → Type 0
IsWaiting spoken log w = IsTaskAt spoken log w.at w.task

abbrev pub AllWait : {S T : Type 0} → Spoken S T → Log → List (Waiting T) → Type 0
AllWait spoken log [] = Unit {0}
AllWait spoken log (w ∷ ws) = IsWaiting spoken log w × AllWait spoken log ws

-- A cell has come to so many turns with the lines before its last flush, and has written nothing since.
pub record IsStanding {S T : Type 0} (spoken : Spoken S T) (session : S) (r : Running) (ran : ℕ) : Type 0 where
  pub onward : r.turns ≤ ran
  pub used : (shown_in spoken session r ran).turns ≡ ran
  pub silent : (shown_in spoken session r ran).output ≡ (stood_in spoken session r).output

-- what stands between two marks, while these marks are owed
pub record IsGoing {S T : Type 0} (spoken : Spoken S T) (dues : List Due) (k : KernelState T) : Type 0 where
  pub each : EachFollows spoken k.log
  pub owes : owed k.log ≡ dues
  pub places : map (λ w. w.at) k.waits ≡ waiting k.log
  pub wait : AllWait spoken k.log k.waits
  pub stands : (r : Running) → running k.log ≡ Some r → IsStanding spoken (session spoken k.log) r k.ran
  pub few : count k.log ≤ length k.log

-- a cell that can go on, or be stopped where it stands
pub record IsHeld {S T : Type 0} (spoken : Spoken S T) (session : S) (r : Running) (ran : ℕ) : Type 0 where
  pub rests : StopsFor Interrupted (shown_in spoken session r ran).outcome
  -- a line that it did not read is a text
  pub texts : nones r.fresh ≡ []

-- what stands between two calls: nothing is owed, and the cell that runs can go on
pub record IsKept {S T : Type 0} (spoken : Spoken S T) (k : KernelState T) : Type 0 where
  pub going : IsGoing spoken [] k
  pub goes : (r : Running) → running k.log ≡ Some r → IsHeld spoken (session spoken k.log) r k.ran

-- the machine is that of this cell, whose output it gave up to the last flush
pub record IsMachineOf {S T : Type 0} (spoken : Spoken S T) (session : S) (r : Running) (m : MachineState S) : Type 0 where
  pub goes : (lines : List AsLine) (n : ℕ) → m.goes lines n ≡ spoken.cell session r.request.code lines n
  pub shown : m.shown ≡ length (stood_in spoken session r).output
  pub used : (m.goes m.lines m.turns).turns ≡ m.turns
  pub on : m.over ≡ false

-- what is kept of the request is what the request says
pub record IsOf {M : Type 0} (r : Running) (active : Active M) : Type 0 where
  pub at : active.at ≡ r.at
  pub seat : active.seat ≡ r.seat
  pub stops : active.stops ≡ r.request.stop_on_error
  pub allows : active.allows ≡ r.request.allow_stdin

-- how the cell stands to its lines: a text that was given is that of an arrival, and the machine was not given it
abbrev pub IsWanting : {S : Type 0} → Log → Wants → Running → MachineState S → Type 0
IsWanting log Nothing r m = (r.asked ≡ false) × (r.fresh ≡ [])
IsWanting log Asked r m = (r.asked ≡ true) × (r.fresh ≡ []) × (m.asks ≡ true) × ((here m).outcome ≡ outcome.NeedsLine)
IsWanting log (Given a) r m =
    (r.asked ≡ false) × (m.asks ≡ true) × (text : List ℕ) × (input_in a.what ≡ Some text) × (r.fresh ≡ Some text ∷ [])

-- between two calls the machine is that of the cell that runs
pub record IsRunBy {S T M : Type 0} (spoken : Spoken S T) (state : M → MachineState S) (session : S) (o : Option Running) (ran : ℕ) (active : Active M) : Type 0 where
  pub cell : Running
  pub runs : o ≡ Some cell
  pub of : IsOf cell active
  pub machine : IsMachineOf spoken session cell (state active.machine)
  pub turns : (state active.machine).turns ≡ ran
  pub onward : cell.turns ≤ ran
  pub lines : (state active.machine).lines ≡ cell.lines

-- what runs, or the session at rest
abbrev pub HoldsAt : {S T M : Type 0} → Spoken S T → (M → MachineState S) → S → Option Running → ℕ → Place S M → Type 0
HoldsAt spoken state session o ran (Resting s) = (o ≡ None) × (s ≡ session)
HoldsAt spoken state session o ran (Runs active) = IsRunBy spoken state session o ran active

-- how the cell that runs stands to its lines
abbrev pub WantsAt : {S M : Type 0} → (M → MachineState S) → Log → Option Running → Place S M → Type 0
WantsAt state log o (Resting s) = Unit {0}
WantsAt state log o (Runs active) =
    (r : Running) × (o ≡ Some r) × (active.read ≡ has_lines r.fresh) × IsWanting log active.wants r (state active.machine)

-- what stands beside the script is what the kernel's state answers
pub record Stands {S T M : Type 0} (spoken : Spoken S T) (state : M → MachineState S) (k : KernelState T) (desk : Desk S M) : Type 0 where
  pub count : desk.count ≡ count k.log
  pub place : HoldsAt spoken state (session spoken k.log) (running k.log) k.ran desk.place
  pub wants : WantsAt state k.log (running k.log) desk.place

-- the cell that runs, with its machine
pub record RunsBy {S T M : Type 0} (spoken : Spoken S T) (state : M → MachineState S) (k : KernelState T) (active : Active M) : Type 0 where
  pub runs : IsRunBy spoken state (session spoken k.log) (running k.log) k.ran active
  pub wants : WantsAt state k.log (running k.log) (Runs active)

-- what runs can be stopped where it stands, or a session is at rest
pub record CanStop {S T M : Type 0} (spoken : Spoken S T) (state : M → MachineState S) (k : KernelState T) (desk : Desk S M) : Type 0 where
  pub count : desk.count ≡ count k.log
  pub place : HoldsAt spoken state (session spoken k.log) (running k.log) k.ran desk.place
  pub read : (r : Running) → running k.log ≡ Some r → r.fresh ≡ []

-- the line for the cell that asks, if one does
abbrev pub line_to : Option (List ℕ) → Option ℕ → Option (List ℕ)
line_to None asker = None
line_to (Some text) None = None
line_to (Some text) (Some at) = Some text

-- what arrived is a line for the cell that runs and asks
abbrev pub IsLineFor : Log → Arrival → Option (List ℕ) → Type 0
IsLineFor log a None = Unit {0}
IsLineFor log a (Some text) = (r : Running) × (running log ≡ Some r) × (r.asked ≡ true) × (input_in a.what ≡ Some text)

-- the line is marked for the cell that runs
abbrev pub lined_up : {T : Type 0} → Option (List ℕ) → Option Running → KernelState T → KernelState T
lined_up None o k = k
lined_up (Some text) None k = k
lined_up (Some text) (Some r) k = noted r.at (Line (Some text)) k

-- the marks of an arrival at this place, which gives the cell that runs this line
abbrev pub marked_as : {T : Type 0} → Sort → ℕ → Option (List ℕ) → KernelState T → KernelState T
marked_as sort.Join place line k = noted place Join k
marked_as sort.Leave place line k = noted place Leave k
marked_as sort.KernelInfo place line k = noted place KernelInfo k
marked_as sort.Interrupt place line k = interrupted (running k.log) (noted place Interrupt k)
marked_as (sort.Shutdown restart) place line k = shut place restart (running k.log) k
marked_as sort.Input place line k = lined_up line (running k.log) k
marked_as sort.Execute place line k = k
marked_as sort.Query place line k = k
marked_as sort.Other place line k = k

-- what an interrupt or a shutdown finds can be stopped
abbrev pub StandsFor : {S T M : Type 0} → Spoken S T → (M → MachineState S) → Sort → KernelState T → Desk S M → Type 0
StandsFor spoken state sort.Interrupt k desk = CanStop spoken state k desk
StandsFor spoken state (sort.Shutdown restart) k desk = CanStop spoken state k desk
StandsFor spoken state sort.Join k desk = Stands spoken state k desk
StandsFor spoken state sort.Leave k desk = Stands spoken state k desk
StandsFor spoken state sort.Execute k desk = Stands spoken state k desk
StandsFor spoken state sort.Query k desk = Stands spoken state k desk
StandsFor spoken state sort.Input k desk = Stands spoken state k desk
StandsFor spoken state sort.KernelInfo k desk = Stands spoken state k desk
StandsFor spoken state sort.Other k desk = Stands spoken state k desk

-- an input reply has a line only for the cell that asks
abbrev pub IsLineBy : Sort → Log → Arrival → Option (List ℕ) → Type 0
IsLineBy sort.Input log a line = IsLineFor log a line
IsLineBy sort.Join log a line = Unit {0}
IsLineBy sort.Leave log a line = Unit {0}
IsLineBy sort.Execute log a line = Unit {0}
IsLineBy sort.Query log a line = Unit {0}
IsLineBy sort.Interrupt log a line = Unit {0}
IsLineBy sort.KernelInfo log a line = Unit {0}
IsLineBy (sort.Shutdown restart) log a line = Unit {0}
IsLineBy sort.Other log a line = Unit {0}

abbrev pub has_asked : Wants → Bool
has_asked Nothing = false
has_asked Asked = true
has_asked (Given a) = false

-- whether a cell waits for the line that it asked for
abbrev pub is_asking : {M : Type 0} → Active M → Log → Bool
is_asking active log = has_asked active.wants && not (left active.seat active.at log)

-- what waits is answered and the first cell starts, or nothing changes for lack of memory
abbrev pub StartsOr : {S T : Type 0} → Spoken S T → ℕ → KernelState T → Work → KernelState T → Type 0
StartsOr spoken turns old work new = ((work ≡ NoMemory) × (new ≡ old)) ⊎ AnswersFirst spoken turns old work new

-- what waits from the first cell on
abbrev pub from_cell : {T : Type 0} → List (Waiting T) → List (Waiting T)
from_cell [] = []
from_cell (w ∷ ws) = by_task w.task (λ result. w ∷ ws) (λ status. from_cell ws)

abbrev pub is_read : {T : Type 0} → Task T → Bool
is_read (Cell result) = is_some result
is_read (Query status) = false

-- whether the first cell that waits has its result
abbrev pub first_is_read : {T : Type 0} → List (Waiting T) → Bool
first_is_read ws = option_or (λ w. is_read w.task) false (find (λ w. is_cell w.task) ws)

-- what comes of a request for this text, by its result
abbrev pub Opens : {S T M : Type 0} → Spoken S T → (M → MachineState S) → S → List ℕ → Parsed T → Opening S M → Type 0
Opens spoken state session text parsed.Memory (opening.Refused back) = back ≡ session
Opens spoken state session text parsed.Memory (opening.Broken back refusal) = ⊥
Opens spoken state session text parsed.Memory (opening.Runs m) = ⊥
Opens spoken state session text (parsed.Fault found) (opening.Refused back) = ⊥
Opens spoken state session text (parsed.Fault found) (opening.Broken back refusal) =
    (back ≡ session) × (refusal ≡ Compile found) × spoken.IsRefusedFor session text refusal
Opens spoken state session text (parsed.Fault found) (opening.Runs m) = ⊥
Opens spoken state session text (parsed.Tree tree) (opening.Refused back) = ⊥
Opens spoken state session text (parsed.Tree tree) (opening.Broken back refusal) = (back ≡ session) × spoken.IsRefusedFor session text refusal
Opens spoken state session text (parsed.Tree tree) (opening.Runs m) = IsFresh spoken session text (state m)
