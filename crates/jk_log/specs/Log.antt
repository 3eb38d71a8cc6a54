-- To be believed.
-- The log, newest first, and what it answers.
use Rattle.std.specs.Prelude.{Bool, true, false, ◌||◌, nat_lt, ℕ, ◌+◌, if◌then◌else◌, ◌==◌, ◌&&◌, not, List, [], ◌∷◌, ◌++◌, length, drop, Option, None, Some}
use Rattle.jk_language.specs.Parts.{Line as Given, Meaning}
use Rattle.jk_language.specs.Spoken.{Spoken}
use Rattle.jk_log.specs.declared.arrival.Arrival.{Arrival}
use Rattle.jk_log.specs.declared.arrival.What.{What}
use Rattle.jk_log.specs.declared.arrival.What.TheVariants as what
use Rattle.jp_msg.specs.declared.message.Execute.{Execute}
use Rattle.jk_log.specs.declared.arrival.Sort.{Sort}
use Rattle.jk_log.specs.declared.arrival.Sort.TheVariants as sort
use Rattle.jp_msg.specs.declared.message.Request.{Request}
use Rattle.jk_log.specs.Asked.{execute_in, query_in, input_in, sort_as}
use Rattle.jk_log.specs.declared.mark.Item.{Item}
use Rattle.jk_log.specs.declared.mark.Item.TheVariants.{Took, Marked}
use Rattle.jk_log.specs.declared.mark.Kind.{Kind}
use Rattle.jk_log.specs.declared.mark.Kind.TheVariants.{Join, Leave, Begin, Flush, Ask, Line, End, Stop, Refuse, Abort, Answer, Interrupt, KernelInfo, Restart}

-- A log, newest first: the tail is the part before its head. A request is named by its place, counted from the oldest.
abbrev pub Log : Type 0
Log = List Item

abbrev pub option_or : {A B : Type 0} → (A → B) → B → Option A → B
option_or f d None = d
option_or f d (Some x) = f x

abbrev pub option_at : {A B : Type 0} → (A → Option B) → Option A → Option B
option_at f None = None
option_at f (Some x) = f x

-- the arrival that is an item
abbrev pub arrival_in : Item → Option Arrival
arrival_in (Took a) = Some a
arrival_in (Marked m) = None

-- the arrival at a place of the log
abbrev pub arrival_at : ℕ → Log → Option Arrival
arrival_at at [] = None
arrival_at at (e ∷ past) = if length past == at then arrival_in e else arrival_at at past

-- the execute request at a place of the log
abbrev pub execute_at : ℕ → Log → Option Execute
execute_at at log = option_at (λ a. execute_in a.what) (arrival_at at log)

-- the request at a place of the log that waits on the shell channel and is no cell
abbrev pub query_at : ℕ → Log → Option Request
query_at at log = option_at (λ a. query_in a.what) (arrival_at at log)

-- the line that was sent at a place of the log
abbrev pub input_at : ℕ → Log → Option (List ℕ)
input_at at log = option_at (λ a. input_in a.what) (arrival_at at log)

-- the seat of the arrival at a place of the log
abbrev pub seat_at : ℕ → Log → ℕ
seat_at at log = option_or (λ a. a.seat) 0 (arrival_at at log)

-- how many arrivals were taken
abbrev pub arrivals : Log → ℕ
arrivals [] = 0
arrivals (Took a ∷ past) = arrivals past + 1
arrivals (Marked m ∷ past) = arrivals past

-- the places of the shell requests that are taken and not yet marked, oldest first
abbrev pub waits_as : Sort → ℕ → List ℕ
waits_as sort.Execute at = at ∷ []
waits_as sort.Query at = at ∷ []
waits_as sort.Join at = []
waits_as sort.Leave at = []
waits_as sort.Input at = []
waits_as sort.Interrupt at = []
waits_as sort.KernelInfo at = []
waits_as (sort.Shutdown restart) at = []
waits_as sort.Other at = []

abbrev pub waiting_after : Kind → List ℕ → List ℕ
waiting_after (Begin count) places = drop 1 places
waiting_after (Refuse count) places = drop 1 places
waiting_after Abort places = drop 1 places
waiting_after (Answer status) places = drop 1 places
waiting_after Interrupt places = places
waiting_after KernelInfo places = places
waiting_after (Restart restart) places = places
waiting_after Join places = places
waiting_after Leave places = places
waiting_after Ask places = places
waiting_after (Line text) places = places
waiting_after (Flush turns text) places = places
waiting_after (End ending count) places = places
waiting_after (Stop turns cause count) places = places

abbrev pub waiting : Log → List ℕ
waiting [] = []
waiting (Took a ∷ past) = waiting past ++ waits_as (sort_as a.what) (length past)
waiting (Marked m ∷ past) = waiting_after m.kind (waiting past)

-- the cell that runs
pub record Running : Type 0 where
  pub at : ℕ
  pub seat : ℕ
  pub request : Execute
  -- the turns at its last flush, the lines that it was given before that, and those since
  pub turns : ℕ
  pub lines : List Given
  pub fresh : List Given
  -- whether it asked, and was given no line since
  pub asked : Bool

-- a cell at its beginning
abbrev pub opened : ℕ → ℕ → Execute → Running
opened at seat e = record { at = at; seat = seat; request = e; turns = 0; lines = []; fresh = []; asked = false }

abbrev pub flushed_at : ℕ → Running → Running
flushed_at turns r = record r { turns = turns; lines = r.lines ++ r.fresh; fresh = [] }

abbrev pub asking : Running → Running
asking r = record r { asked = true }

abbrev pub lined : Given → Running → Running
lined line r = record r { fresh = r.fresh ++ line ∷ []; asked = false }

-- the times that there was no line among these
abbrev pub nones : List Given → List Given
nones [] = []
nones (None ∷ lines) = None ∷ nones lines
nones (Some text ∷ lines) = nones lines

-- a text that was given since the last flush does not count
abbrev pub unread : Running → Running
unread r = record r { fresh = nones r.fresh }

abbrev pub option_with : {A B : Type 0} → (A → B) → Option A → Option B
option_with f None = None
option_with f (Some x) = Some (f x)

abbrev pub running_after : ℕ → Kind → ℕ → Option Execute → Option Running → Option Running
running_after at (Begin count) seat request before = option_with (opened at seat) request
running_after at (Flush turns text) seat request before = option_with (flushed_at turns) before
running_after at Ask seat request before = option_with asking before
running_after at (Line text) seat request before = option_with (lined text) before
running_after at (End ending count) seat request before = None
running_after at (Stop turns cause count) seat request before = None
running_after at Join seat request before = before
running_after at Leave seat request before = before
running_after at (Refuse count) seat request before = before
running_after at Abort seat request before = before
running_after at (Answer status) seat request before = before
running_after at Interrupt seat request before = before
running_after at KernelInfo seat request before = before
running_after at (Restart restart) seat request before = before

-- a text that an interrupt or a shutdown finds unread is never read
abbrev pub running_with : Sort → Option Running → Option Running
running_with sort.Interrupt before = option_with unread before
running_with (sort.Shutdown restart) before = option_with unread before
running_with sort.Join before = before
running_with sort.Leave before = before
running_with sort.Execute before = before
running_with sort.Query before = before
running_with sort.KernelInfo before = before
running_with sort.Input before = before
running_with sort.Other before = before

abbrev pub running : Log → Option Running
running [] = None
running (Took a ∷ past) = running_with (sort_as a.what) (running past)
running (Marked m ∷ past) = running_after m.at m.kind (seat_at m.at past) (execute_at m.at past) (running past)

-- what the cell comes to in n turns with all lines so far, begun in a session
abbrev pub meaning_in : {S T : Type 0} → Spoken S T → S → Running → ℕ → Meaning S
meaning_in spoken session r n = spoken.cell session r.request.code (r.lines ++ r.fresh) n

-- what it comes to in n turns with the lines before its last flush
abbrev pub shown_in : {S T : Type 0} → Spoken S T → S → Running → ℕ → Meaning S
shown_in spoken session r n = spoken.cell session r.request.code r.lines n

-- where it stood at its last flush
abbrev pub stood_in : {S T : Type 0} → Spoken S T → S → Running → Meaning S
stood_in spoken session r = shown_in spoken session r r.turns

-- the session: what the last cell left where it stood at its End or Stop; after a shutdown it is the opening one
abbrev pub session_after : {S T : Type 0} → Spoken S T → Kind → Option Running → S → S
session_after spoken (End ending count) r session = option_or (λ r. (stood_in spoken session r).session) session r
session_after spoken (Stop turns cause count) r session = option_or (λ r. (stood_in spoken session r).session) session r
session_after spoken Join r session = session
session_after spoken Leave r session = session
session_after spoken (Begin count) r session = session
session_after spoken (Flush turns text) r session = session
session_after spoken Ask r session = session
session_after spoken (Line text) r session = session
session_after spoken (Refuse count) r session = session
session_after spoken Abort r session = session
session_after spoken (Answer status) r session = session
session_after spoken Interrupt r session = session
session_after spoken KernelInfo r session = session
session_after spoken (Restart restart) r session = spoken.opening

abbrev pub session : {S T : Type 0} → Spoken S T → Log → S
session spoken [] = spoken.opening
session spoken (Took a ∷ past) = session spoken past
session spoken (Marked m ∷ past) = session_after spoken m.kind (running past) (session spoken past)

abbrev pub meaning : {S T : Type 0} → Spoken S T → Log → Running → ℕ → Meaning S
meaning spoken log r n = meaning_in spoken (session spoken log) r n

abbrev pub stood : {S T : Type 0} → Spoken S T → Log → Running → Meaning S
stood spoken log r = stood_in spoken (session spoken log) r

abbrev pub is_leave : What → Bool
is_leave what.Leave = true
is_leave what.Join = false
is_leave (what.Shell m) = false
is_leave (what.Control m) = false
is_leave (what.Stdin m) = false

abbrev pub leaves : ℕ → Arrival → Bool
leaves seat a = is_leave a.what && a.seat == seat

-- whether a seat has left since a place
abbrev pub left : ℕ → ℕ → Log → Bool
left seat at [] = false
left seat at (Took a ∷ past) = (leaves seat a && nat_lt at (length past)) || left seat at past
left seat at (Marked m ∷ past) = left seat at past

-- the request of the cell that asks this seat for a line
abbrev pub asked_of : ℕ → Log → Running → Option ℕ
asked_of seat log r = if r.asked && r.seat == seat && not (left r.seat r.at log) then Some r.at else None

abbrev pub asker : ℕ → Log → Option ℕ
asker seat log = option_at (asked_of seat log) (running log)

-- the count that the last begun cell has; it starts anew after a shutdown
abbrev pub count_after : Kind → ℕ → ℕ
count_after (Begin count) before = count
count_after Join before = before
count_after Leave before = before
count_after Ask before = before
count_after (Line text) before = before
count_after (Flush turns text) before = before
count_after (End ending count) before = before
count_after (Stop turns cause count) before = before
count_after (Refuse count) before = before
count_after Abort before = before
count_after (Answer status) before = before
count_after Interrupt before = before
count_after KernelInfo before = before
count_after (Restart restart) before = 0

abbrev pub count : Log → ℕ
count [] = 0
count (Took a ∷ past) = count past
count (Marked m ∷ past) = count_after m.kind (count past)

-- a stored cell raises the count by one
abbrev pub raised : Execute → ℕ → ℕ
raised e n = if e.store_history && not e.silent then n + 1 else n

-- the count with which the request at a place begins
abbrev pub next_count : ℕ → Log → ℕ
next_count at log = option_or (λ e. raised e (count log)) (count log) (execute_at at log)

-- the arrivals taken, oldest first
abbrev pub takes : Log → List Arrival
takes [] = []
takes (Took a ∷ past) = takes past ++ a ∷ []
takes (Marked m ∷ past) = takes past

abbrev pub ends : Kind → Bool
ends (Restart restart) = not restart
ends Join = false
ends Leave = false
ends (Begin count) = false
ends (Flush turns text) = false
ends Ask = false
ends (Line text) = false
ends (End ending count) = false
ends (Stop turns cause count) = false
ends (Refuse count) = false
ends Abort = false
ends (Answer status) = false
ends Interrupt = false
ends KernelInfo = false

-- whether the kernel was shut down, and not to start again
abbrev pub ended : Log → Bool
ended [] = false
ended (Took a ∷ past) = ended past
ended (Marked m ∷ past) = ends m.kind || ended past
