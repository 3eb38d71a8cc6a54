-- To be believed.
-- What a log tells of the request at a place.
use Rattle.std.specs.Prelude.{◌≡◌, Bool, true, false, ℕ, ◌+◌, ◌≤◌, ◌==◌, if◌then◌else◌, List, [], ◌∷◌, ◌++◌, Option, None, Some}
use Rattle.jk_language.specs.Parts.{Line as Given, Meaning}
use Rattle.jk_language.specs.Spoken.{Spoken}
use Rattle.jp_msg.specs.declared.message.Execute.{Execute}
use Rattle.jk_log.specs.declared.mark.Item.TheVariants.{Took, Marked}
use Rattle.jk_log.specs.declared.mark.Kind.{Kind}
use Rattle.jk_log.specs.declared.mark.Kind.TheVariants.{Begin, Flush, Line, End, Stop, Refuse, Abort, Answer}
use Rattle.jk_log.specs.Legal.{EndsSo, StopsFor}
use Rattle.jk_log.specs.declared.arrival.What.{What}
use Rattle.jk_log.specs.declared.arrival.What.TheVariants.{Control}
use Rattle.jp_msg.specs.declared.message.Content.{Content}
use Rattle.jp_msg.specs.declared.message.Content.TheVariants as content
use Rattle.jp_msg.specs.declared.message.Request.{Request}
use Rattle.jp_msg.specs.declared.message.Request.TheVariants as request
use Rattle.jk_log.specs.Log.{Log, Running, running, session, execute_at, nones, option_or}

-- how often a request is begun, refused, aborted or answered by a mark
abbrev pub answers : Kind → ℕ
answers (Begin count) = 1
answers (Refuse count) = 1
answers Abort = 1
answers (Answer status) = 1
answers other = 0

-- how often an execute request is begun, refused or aborted
abbrev pub closes : Kind → ℕ
closes (Begin count) = 1
closes (Refuse count) = 1
closes Abort = 1
closes other = 0

-- how often it is begun
abbrev pub begins : Kind → ℕ
begins (Begin count) = 1
begins other = 0

-- how often it is aborted
abbrev pub aborts : Kind → ℕ
aborts Abort = 1
aborts other = 0

-- how often its cell is ended or stopped
abbrev pub ends : Kind → ℕ
ends (End ending count) = 1
ends (Stop turns cause count) = 1
ends other = 0

-- how often that comes to by the marks of the request at a place
abbrev pub times : (Kind → ℕ) → ℕ → Log → ℕ
times what at [] = 0
times what at (Took a ∷ past) = times what at past
times what at (Marked m ∷ past) = times what at past + (if m.at == at then what m.kind else 0)

abbrev pub times_answered : ℕ → Log → ℕ
times_answered at log = times answers at log

abbrev pub times_closed : ℕ → Log → ℕ
times_closed at log = times closes at log

abbrev pub times_begun : ℕ → Log → ℕ
times_begun at log = times begins at log

abbrev pub times_aborted : ℕ → Log → ℕ
times_aborted at log = times aborts at log

abbrev pub times_ended : ℕ → Log → ℕ
times_ended at log = times ends at log

-- 1 where the cell of the request at a place runs
abbrev pub runs_at : ℕ → Log → ℕ
runs_at at log = option_or (λ (r : Running). if r.at == at then 1 else 0) 0 (running log)

-- A request is begun, refused, aborted or answered at most once; and a cell that was begun runs, or was ended or stopped once.
pub record IsAnsweredOnce (log : Log) (at : ℕ) : Type 0 where
  pub answered : times_answered at log ≤ 1
  pub ended : times_begun at log ≡ times_ended at log + runs_at at log

abbrev pub text_of : Kind → List ℕ
text_of (Flush turns text) = text
text_of other = []

-- the streams of the request at a place, joined
abbrev pub streams : ℕ → Log → List ℕ
streams at [] = []
streams at (Took a ∷ past) = streams at past
streams at (Marked m ∷ past) = streams at past ++ (if m.at == at then text_of m.kind else [])

abbrev pub turns_after : Kind → ℕ → ℕ
turns_after (Flush turns text) before = turns
turns_after other before = before

-- the turns at the last flush of the request at a place
abbrev pub last_turns : ℕ → Log → ℕ
last_turns at [] = 0
last_turns at (Took a ∷ past) = last_turns at past
last_turns at (Marked m ∷ past) = if m.at == at then turns_after m.kind (last_turns at past) else last_turns at past

abbrev pub fresh_after : Kind → List Given → List Given
fresh_after (Flush turns text) before = []
fresh_after (Line line) before = before ++ line ∷ []
fresh_after other before = before

abbrev pub request_interrupts : Request → Bool
request_interrupts request.Interrupt = true
request_interrupts (request.Shutdown restart) = true
request_interrupts (request.Execute e) = false
request_interrupts request.KernelInfo = false
request_interrupts (request.IsComplete code) = false
request_interrupts (request.Complete cursor) = false
request_interrupts request.Inspect = false
request_interrupts request.History = false
request_interrupts request.CommInfo = false
request_interrupts (request.InputReply line) = false
request_interrupts request.Other = false

abbrev pub content_interrupts : Content → Bool
content_interrupts (content.Request r) = request_interrupts r
content_interrupts (content.Output o) = false

-- whether what arrived stops the cell that runs: it interrupts, or shuts the kernel down
abbrev pub interrupts : What → Bool
interrupts (Control m) = content_interrupts m.content
interrupts other = false

-- the lines that the request at a place was given since its last flush, where an interrupt or a shutdown drops a text
abbrev pub fresh_lines : ℕ → Log → List Given
fresh_lines at [] = []
fresh_lines at (Took a ∷ past) = if interrupts a.what then nones (fresh_lines at past) else fresh_lines at past
fresh_lines at (Marked m ∷ past) = if m.at == at then fresh_after m.kind (fresh_lines at past) else fresh_lines at past

abbrev pub lines_after : Kind → List Given → List Given → List Given
lines_after (Flush turns text) fresh before = before ++ fresh
lines_after other fresh before = before

-- the lines that it was given before its last flush
abbrev pub lines_at : ℕ → Log → List Given
lines_at at [] = []
lines_at at (Took a ∷ past) = lines_at at past
lines_at at (Marked m ∷ past) =
    if m.at == at then lines_after m.kind (fresh_lines at past) (lines_at at past) else lines_at at past

abbrev pub begun_after : {S : Type 0} → Kind → S → Option S → Option S
begun_after (Begin count) session before = Some session
begun_after other session before = before

-- the session in which the request at a place was begun
abbrev pub begun_in : {S T : Type 0} → Spoken S T → ℕ → Log → Option S
begun_in spoken at [] = None
begun_in spoken at (Took a ∷ past) = begun_in spoken at past
begun_in spoken at (Marked m ∷ past) =
    if m.at == at then begun_after m.kind (session spoken past) (begun_in spoken at past) else begun_in spoken at past

abbrev pub closed_by : Kind → Option Kind → Option Kind
closed_by (End ending count) before = Some (End ending count)
closed_by (Stop turns cause count) before = Some (Stop turns cause count)
closed_by other before = before

-- the mark that ended or stopped the cell of the request at a place
abbrev pub closed_as : ℕ → Log → Option Kind
closed_as at [] = None
closed_as at (Took a ∷ past) = closed_as at past
closed_as at (Marked m ∷ past) = if m.at == at then closed_by m.kind (closed_as at past) else closed_as at past

abbrev pub count_by : Kind → ℕ → ℕ
count_by (Begin count) before = count
count_by (Refuse count) before = count
count_by other before = before

-- the count that the mark tells which began or refused the request at a place
abbrev pub count_at : ℕ → Log → ℕ
count_at at [] = 0
count_at at (Took a ∷ past) = count_at at past
count_at at (Marked m ∷ past) = if m.at == at then count_by m.kind (count_at at past) else count_at at past

-- what the cell of a request that was begun in a session has come to at its last flush
abbrev pub flushed_meaning : {S T : Type 0} → Spoken S T → Log → ℕ → S → Execute → Meaning S
flushed_meaning spoken log at begun request = spoken.cell begun request.code (lines_at at log) (last_turns at log)

-- a mark tells what a cell has come to, and after how many turns
abbrev pub TellsEnd : {S T : Type 0} → Spoken S T → S → List ℕ → Meaning S → ℕ → Kind → Type 0
TellsEnd spoken begun code m turns (End ending count) = EndsSo spoken begun code m.outcome ending
TellsEnd spoken begun code m turns (Stop stopped cause count) = (stopped ≡ turns) × StopsFor cause m.outcome
TellsEnd spoken begun code m turns other = ⊥

-- A begun cell has shown the output of its meaning at the turns of its last flush, all of which it has used, with the
-- lines given before it. Where it was ended or stopped, that is told as its meaning has it there.
pub record CellIsRight {S T : Type 0} (spoken : Spoken S T) (log : Log) (at : ℕ) (begun : S) : Type 0 where
  pub request : Execute
  pub there : execute_at at log ≡ Some request
  pub shown : streams at log ≡ (flushed_meaning spoken log at begun request).output
  pub used : (flushed_meaning spoken log at begun request).turns ≡ last_turns at log
  pub ended : (kind : Kind) → closed_as at log ≡ Some kind
      → TellsEnd spoken begun request.code (flushed_meaning spoken log at begun request) (last_turns at log) kind
