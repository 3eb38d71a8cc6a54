-- To be believed.
-- The notebook of what a recorder was told: entries, and notebooks that were put. It is defined by questions to the
-- whole list, newest first. Each question has one line for each thing that may happen, and none looks at a notebook
-- that was changed step by step.
use Rattle.std.specs.Prelude.{ℕ, ℤ, pos, List, [], ◌∷◌, ◌++◌, map, codes, Bool, true, false, not, ◌&&◌, ◌||◌, if◌then◌else◌, Option, None, Some, is_some, option_and_then}
use Rattle.std.specs.List.{list_any}
use Rattle.std.specs.Str.{bytes_eq}
use Rattle.serde_json.specs.Data.{Data}
use Rattle.serde_json.specs.Find.{get, as_str}
use Rattle.jp_msg.specs.declared.message.Message.{Message}
use Rattle.jp_msg.specs.declared.message.Content.{Content as MessageContent}
use Rattle.jp_msg.specs.declared.message.Content.TheVariants as message
use Rattle.jp_msg.specs.declared.message.Request.{Request}
use Rattle.jp_msg.specs.declared.message.Request.TheVariants as request
use Rattle.jp_msg.specs.declared.message.Failure.{Failure}
use Rattle.jp_msg.specs.declared.message.Output.{Output as Told}
use Rattle.jp_msg.specs.declared.message.Output.TheVariants as told
use Rattle.jp_msg.specs.Writing.{traceback_text}
use Rattle.jk_log.specs.declared.entry.Entry.{Entry}
use Rattle.jk_log.specs.declared.entry.Told.{Told as EntryContent}
use Rattle.jk_log.specs.declared.entry.Told.TheVariants as entry
use Rattle.nb_doc.specs.declared.notebook.Notebook.{Notebook}
use Rattle.nb_doc.specs.declared.notebook.Cell.{Cell}
use Rattle.nb_doc.specs.declared.notebook.Content.{Content}
use Rattle.nb_doc.specs.declared.notebook.Content.TheVariants as content
use Rattle.nb_doc.specs.declared.notebook.Execution.{Execution}
use Rattle.nb_doc.specs.declared.notebook.Output.{Output}
use Rattle.nb_doc.specs.declared.notebook.Output.TheVariants as output
use Rattle.nb_doc.specs.Building.{code_cell}
use Rattle.nb_doc.specs.Documents.{ids}
use Rattle.nb_record.specs.declared.event.Event.{Event}
use Rattle.nb_record.specs.declared.event.Event.TheVariants.{Begins, Passes, Writes, Ends, Puts, Nothing}
use Rattle.nb_doc.specs.Ids.{is_allowed, is_among, name_of, least_free}

-- what a recorder is told
pub data Item : Type 0 where
  Shown : (e : Entry) → Item
  Put : (n : Notebook) → Item

-- ---- what an item means for the notebook

-- whether a request is to be stored
abbrev pub is_stored : MessageContent → Bool
is_stored (message.Request (request.Execute e)) = e.store_history && not e.silent
is_stored (message.Request request.KernelInfo) = false
is_stored (message.Request (request.IsComplete code)) = false
is_stored (message.Request (request.Complete cursor)) = false
is_stored (message.Request request.Inspect) = false
is_stored (message.Request request.History) = false
is_stored (message.Request request.CommInfo) = false
is_stored (message.Request request.Interrupt) = false
is_stored (message.Request (request.Shutdown restart)) = false
is_stored (message.Request (request.InputReply line)) = false
is_stored (message.Request request.Other) = false
is_stored (message.Output o) = false

-- the id of the cell that a frontend names in the metadata of its request
abbrev pub wish_of : Message → Option (List ℕ)
wish_of m = option_and_then as_str (get (codes "cellId") m.metadata)

abbrev pub begins : Message → List ℕ → ℕ → Event
begins m source count = if is_stored m.content then Begins (wish_of m) source count else Passes

abbrev pub error_of : Failure → Output
error_of f = output.Error f.ename f.evalue (traceback_text f ∷ [])

-- what is told of a request
abbrev pub event_told : Message → Told → Event
event_told m (told.ExecuteInput source count) = begins m source count
event_told m (told.Stream text) = Writes (output.Stream (codes "stdout") text)
event_told m (told.Error f) = Writes (error_of f)
event_told m (told.Status state) = Nothing
event_told m told.InputRequest = Nothing
event_told m (told.ExecuteReply outcome) = Ends
event_told m told.KernelInfoReply = Nothing
event_told m (told.IsCompleteReply answer) = Nothing
event_told m (told.CompleteReply cursor) = Nothing
event_told m told.InspectReply = Nothing
event_told m told.HistoryReply = Nothing
event_told m told.CommInfoReply = Nothing
event_told m told.InterruptReply = Nothing
event_told m (told.ShutdownReply restart) = Nothing

abbrev pub event_of : Option Message → EntryContent → Event
event_of (Some m) (entry.Output o) = event_told m o
event_of (Some m) (entry.Joined seat n) = Nothing
event_of (Some m) (entry.Left seat n) = Nothing
event_of None c = Nothing

abbrev pub event : Item → Event
event (Shown e) = event_of e.parent e.content
event (Put n) = Puts n

-- ---- which cells there are, and in which order

abbrev pub is_code : Content → Bool
is_code (content.Code e) = true
is_code (content.Markdown a) = false
is_code (content.Raw a) = false

-- whether a cell is the code cell of that id
abbrev pub is_code_at : List ℕ → Cell → Bool
is_code_at id c = bytes_eq id c.id && is_code c.content

abbrev pub has_code : List Cell → List ℕ → Bool
has_code cs id = list_any (is_code_at id) cs

-- the id of a cell that is appended: the one wished for where it is allowed and free, else `run-` and the least number
-- from 1 that is free
abbrev pub new_id : List Cell → Option (List ℕ) → List ℕ
new_id cs None = name_of (least_free (ids cs))
new_id cs (Some id) = if is_allowed id && not (is_among (ids cs) id) then id else name_of (least_free (ids cs))

abbrev pub is_there : List Cell → Option (List ℕ) → Bool
is_there cs None = false
is_there cs (Some id) = has_code cs id

-- the id of the cell that a request begins: the code cell that it wishes for, else one that is appended
abbrev pub target : List Cell → Option (List ℕ) → List ℕ
target cs None = new_id cs None
target cs (Some id) = if has_code cs id then id else new_id cs (Some id)

abbrev pub cells_after : Event → List Cell → List Cell
cells_after (Begins wish source count) cs = if is_there cs wish then cs else cs ++ code_cell (new_id cs wish) [] None ∷ []
cells_after (Puts n) cs = n.cells
cells_after Passes cs = cs
cells_after (Writes o) cs = cs
cells_after Ends cs = cs
cells_after Nothing cs = cs

-- the cells of the last put, and then those that were appended since; what they hold is asked below
abbrev pub cells : Notebook → List Item → List Cell
cells base [] = base.cells
cells base (i ∷ past) = cells_after (event i) (cells base past)

-- ---- the metadata

abbrev pub metadata_after : Event → Data → Data
metadata_after (Puts n) d = n.metadata
metadata_after (Begins wish source count) d = d
metadata_after Passes d = d
metadata_after (Writes o) d = d
metadata_after Ends d = d
metadata_after Nothing d = d

abbrev pub metadata : Notebook → List Item → Data
metadata base [] = base.metadata
metadata base (i ∷ past) = metadata_after (event i) (metadata base past)

-- ---- the request that began last

abbrev pub current_after : Event → List Cell → Option (List ℕ) → Option (List ℕ)
current_after (Begins wish source count) cs id = Some (target cs wish)
current_after Passes cs id = None
current_after (Writes o) cs id = id
current_after Ends cs id = id
current_after (Puts n) cs id = id
current_after Nothing cs id = id

-- the id of the cell that it was begun for, if it is stored
abbrev pub current : Notebook → List Item → Option (List ℕ)
current base [] = None
current base (i ∷ past) = current_after (event i) (cells base past) (current base past)

abbrev pub is_id : List ℕ → Option (List ℕ) → Bool
is_id id None = false
is_id id (Some other) = bytes_eq id other

-- whether it has not ended: the reply of an execute request ends it
abbrev pub lasts_after : Event → Bool → Bool
lasts_after (Begins wish source count) before = true
lasts_after Passes before = true
lasts_after Ends before = false
lasts_after (Writes o) before = before
lasts_after (Puts n) before = before
lasts_after Nothing before = before

abbrev pub lasts : List Item → Bool
lasts [] = false
lasts (i ∷ past) = lasts_after (event i) (lasts past)

-- the id of the cell whose request has begun and not ended, if it is stored
abbrev pub running_by : Bool → Option (List ℕ) → Option (List ℕ)
running_by lasts now = if lasts then now else None

abbrev pub running : Notebook → List Item → Option (List ℕ)
running base items = running_by (lasts items) (current base items)

-- ---- which cells were executed since the recorder began

abbrev pub executed_after : Event → List Cell → List ℕ → Bool → Bool
executed_after (Begins wish source count) cs id before = bytes_eq id (target cs wish) || before
executed_after (Puts n) cs id before = has_code n.cells id && before
executed_after Passes cs id before = before
executed_after (Writes o) cs id before = before
executed_after Ends cs id before = before
executed_after Nothing cs id before = before

-- whether the code cell of that id was; one that a put leaves out is another cell when it comes back
abbrev pub executed : Notebook → List Item → List ℕ → Bool
executed base [] id = false
executed base (i ∷ past) id = executed_after (event i) (cells base past) id (executed base past id)

-- ---- the source

abbrev pub source_in : List Cell → List ℕ → List ℕ
source_in [] id = []
source_in (c ∷ cs) id = if bytes_eq id c.id then c.source else source_in cs id

abbrev pub source_after : Event → List Cell → List ℕ → List ℕ → List ℕ
source_after (Begins wish source count) cs id before = if bytes_eq id (target cs wish) then source else before
source_after (Puts n) cs id before = source_in n.cells id
source_after Passes cs id before = before
source_after (Writes o) cs id before = before
source_after Ends cs id before = before
source_after Nothing cs id before = before

-- the last that a put or a cell that began gave
abbrev pub source : Notebook → List Item → List ℕ → List ℕ
source base [] id = source_in base.cells id
source base (i ∷ past) id = source_after (event i) (cells base past) id (source base past id)

-- ---- count and outputs

abbrev pub no_run : Execution
no_run = record { execution_count = None; outputs = [] }

abbrev pub run_of : Content → Execution
run_of (content.Code e) = e
run_of (content.Markdown a) = no_run
run_of (content.Raw a) = no_run

abbrev pub run_in : List Cell → List ℕ → Execution
run_in [] id = no_run
run_in (c ∷ cs) id = if is_code_at id c then run_of c.content else run_in cs id

abbrev pub with_output : Execution → Output → Execution
with_output e o = record { execution_count = e.execution_count; outputs = e.outputs ++ o ∷ [] }

-- what an executed cell keeps at a put: all that it has, but nothing where the put has a null count and the cell does not run
abbrev pub kept_run : Bool → Execution → Execution → Execution
kept_run runs put before = if runs || is_some put.execution_count then before else no_run

-- `now` is the cell of the request that began last, and `going` the same while that request has not ended
abbrev pub run_after : Event → List Cell → Option (List ℕ) → Option (List ℕ) → List ℕ → Bool → Execution → Execution
-- a cell that begins sets its own
run_after (Begins wish source count) cs now going id executed before =
    if bytes_eq id (target cs wish) then record { execution_count = Some (pos count); outputs = [] } else before
run_after (Writes o) cs now going id executed before = if is_id id now then with_output before o else before
-- a put sets that of a cell that was not executed, and takes away that of an executed one by a null count, unless it runs
run_after (Puts n) cs now going id executed before =
    if executed then kept_run (is_id id going) (run_in n.cells id) before else run_in n.cells id
run_after Passes cs now going id executed before = before
run_after Ends cs now going id executed before = before
run_after Nothing cs now going id executed before = before

-- the count and the outputs of the code cell of that id
abbrev pub run : Notebook → List Item → List ℕ → Execution
run base [] id = run_in base.cells id
run base (i ∷ past) id =
    run_after (event i) (cells base past) (current base past) (running base past) id (executed base past id) (run base past id)

-- ---- the book

abbrev pub with_run : Execution → Content → Content
with_run e (content.Code old) = content.Code e
with_run e (content.Markdown a) = content.Markdown a
with_run e (content.Raw a) = content.Raw a

abbrev pub written : Notebook → List Item → Cell → Cell
written base items c = record { id = c.id; metadata = c.metadata; source = source base items c.id; content = with_run (run base items c.id) c.content }

-- the notebook that the recorder holds
abbrev pub book : Notebook → List Item → Notebook
book base items = record { cells = map (written base items) (cells base items); metadata = metadata base items }
