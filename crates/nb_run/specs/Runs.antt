-- To be believed.
-- A run of a notebook: what a fresh kernel is sent for its code cells, and what is saved of all that the kernel shows.
use Rattle.std.specs.Prelude.{◌≡◌, ℕ, Bool, true, false, ◌&&◌, ◌||◌, ◌⊎◌, if◌then◌else◌, List, [], ◌∷◌, ◌++◌, codes, Option, Some, None}
use Rattle.std.specs.List.{list_any}
use Rattle.serde_json.specs.Data.{Data, string}
use Rattle.json_form.specs.Forms.{empty_object}
use Rattle.jp_msg.specs.declared.message.Message.{Message}
use Rattle.jp_msg.specs.declared.message.Execute.{Execute}
use Rattle.jp_msg.specs.declared.message.Content.TheVariants as content
use Rattle.jp_msg.specs.declared.message.Request.TheVariants as request
use Rattle.jp_msg.specs.declared.message.Output.TheVariants as output
use Rattle.jp_msg.specs.declared.message.Output.{Output}
use Rattle.jp_msg.specs.declared.message.Outcome.{Outcome}
use Rattle.jp_msg.specs.declared.message.Outcome.TheVariants as outcome
use Rattle.jp_msg.specs.Writing.{fields}
use Rattle.jk_language.specs.Spoken.{Spoken}
use Rattle.jk_log.specs.declared.arrival.Arrival.{Arrival}
use Rattle.jk_log.specs.declared.arrival.Sort.TheVariants as sort
use Rattle.jk_log.specs.declared.arrival.What.TheVariants.{Shell}
use Rattle.jk_log.specs.declared.entry.Entry.{Entry}
use Rattle.jk_log.specs.declared.entry.Told.{Told}
use Rattle.jk_log.specs.declared.entry.Told.TheVariants as entry
use Rattle.jk_log.specs.Asked.{sort_as}
use Rattle.jk_log.specs.Log.{Log, takes, running}
use Rattle.jk_log.specs.Legal.{IsLegal}
use Rattle.jk_log.specs.Render.{render}
use Rattle.nb_doc.specs.declared.notebook.Notebook.{Notebook}
use Rattle.nb_doc.specs.declared.notebook.Cell.{Cell}
use Rattle.nb_record.specs.Book.{Item, Shown, book, is_code, wish_of}
use Rattle.nb_run.specs.declared.cells.Code.{Code}

-- the code cells among these: their ids and sources, in order
abbrev pub code_cells : List Cell → List Code
code_cells [] = []
code_cells (c ∷ cs) = if is_code c.content then record { id = c.id; source = c.source } ∷ code_cells cs else code_cells cs

-- ---- what is sent for a cell

-- a source that is to be run, stored, and may ask for lines
abbrev pub execute_of : List ℕ → Execute
execute_of source = record {
  code = source;
  silent = false;
  store_history = true;
  user_expressions = empty_object;
  allow_stdin = true;
  stop_on_error = true;
}

-- the metadata that name a cell
unfoldable pub metadata_of : List ℕ → Data
metadata_of id = fields ((codes "cellId", string id) ∷ [])

-- seat 0 sends the execute request of a code cell: its source, and its id as that of the cell that it is for
pub record IsRequestFor (c : Code) (a : Arrival) : Type 0 where
  pub seat : a.seat ≡ 0
  pub message : Message
  pub sent : a.what ≡ Shell message
  pub runs : message.content ≡ content.Request (request.Execute (execute_of c.source))
  pub names : message.metadata ≡ metadata_of c.id

-- what seat 0 sends while a cell runs: a line for it, or that there is none, since the seat leaves
pub record IsInput (a : Arrival) : Type 0 where
  pub seat : a.seat ≡ 0
  pub input : (sort_as a.what ≡ sort.Input) ⊎ (sort_as a.what ≡ sort.Leave)

abbrev pub AreInputs : List Arrival → Type 0
AreInputs [] = Unit {0}
AreInputs (a ∷ rest) = IsInput a × AreInputs rest

-- one request, and then input alone
abbrev pub IsSentFor : Code → List Arrival → Type 0
IsSentFor c [] = ⊥
IsSentFor c (a ∷ inputs) = IsRequestFor c a × AreInputs inputs

-- ---- how a cell ends

abbrev pub is_done_outcome : Outcome → Bool
is_done_outcome (outcome.Done count) = true
is_done_outcome (outcome.Failed count failure) = false
is_done_outcome outcome.Aborted = false

abbrev pub is_done_output : Output → Bool
is_done_output (output.ExecuteReply o) = is_done_outcome o
is_done_output other = false

abbrev pub is_done_told : Told → Bool
is_done_told (entry.Output o) = is_done_output o
is_done_told (entry.Joined seat number) = false
is_done_told (entry.Left seat number) = false

-- whether an entry is the reply to a cell that ended well
abbrev pub is_done : Entry → Bool
is_done e = is_done_told e.content

-- ---- the cells, one after another

-- the first where it is so, else the second
abbrev pub Either : Bool → Type 0 → Type 0 → Type 0
Either true P Q = P
Either false P Q = Q

-- What was sent for these cells, what was shown of it, and whether all ended well. The next cell is sent where the one before
-- was shown to have ended well, or where all are to be run; else it was the last.
abbrev pub AreRun : Bool → List Code → List Arrival → List Entry → Bool → Type 0
AreRun all [] sent told ok = (sent ≡ []) × (told ≡ []) × (ok ≡ true)
AreRun all (c ∷ cs) sent told ok =
    (first rest : List Arrival) × (shown later : List Entry)
    × (sent ≡ first ++ rest) × (told ≡ shown ++ later) × IsSentFor c first
    × Either (all || list_any is_done shown)
    ((others : Bool) × AreRun all cs rest later others × (ok ≡ (list_any is_done shown && others)))
    ((rest ≡ []) × (later ≡ []) × (ok ≡ false))

-- ---- the whole run

-- entries as a recorder was told them, the newest first, before others
abbrev pub told_items : List Entry → List Item → List Item
told_items [] items = items
told_items (e ∷ es) items = told_items es (Shown e ∷ items)

-- A legal log, in which no cell runs, whose arrivals are what was sent for the notebook's code cells. What is saved is the
-- book of all that is shown of it, over the notebook as it was read.
pub record IsRun {S T : Type 0} (spoken : Spoken S T) (all : Bool) (base : Notebook) (ok : Bool) (saved : Notebook) : Type 0 where
  pub log : Log
  pub legal : IsLegal spoken log
  pub rests : running log ≡ None
  pub cells : AreRun all (code_cells base.cells) (takes log) (render log) ok
  pub book : saved ≡ book base (told_items (render log) [])
