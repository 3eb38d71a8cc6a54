-- To be believed.
-- What a recorder's notebook holds of a code cell: the count and the outputs of the last stored request that was begun for
-- it, unless a put said otherwise since ("The Jupyter notebook format", nbformat 4.5: `execution_count` and `outputs`).
use Rattle.std.specs.Prelude.{◌≡◌, ℕ, pos, List, [], ◌∷◌, ◌++◌, codes, Bool, true, false, not, ◌&&◌, ◌||◌, if◌then◌else◌, Option, None, Some, is_some}
use Rattle.std.specs.List.{list_any}
use Rattle.jp_msg.specs.Writing.{traceback_text}
use Rattle.jp_msg.specs.declared.message.Execute.{Execute}
use Rattle.jp_msg.specs.declared.message.Message.{Message}
use Rattle.jp_msg.specs.declared.message.Output.TheVariants.{ExecuteInput, Stream, Error, ExecuteReply}
use Rattle.jk_log.specs.Asked.{message_execute}
use Rattle.jk_log.specs.Log.{option_or}
use Rattle.jk_log.specs.declared.entry.Entry.{Entry}
use Rattle.jk_log.specs.declared.entry.Told.{Told}
use Rattle.jk_log.specs.declared.entry.Told.TheVariants as told
use Rattle.nb_doc.specs.declared.notebook.Cell.{Cell}
use Rattle.nb_doc.specs.declared.notebook.Execution.{Execution}
use Rattle.nb_doc.specs.declared.notebook.Notebook.{Notebook}
use Rattle.nb_doc.specs.declared.notebook.Output.{Output}
use Rattle.nb_doc.specs.declared.notebook.Output.TheVariants as output
use Rattle.nb_record.specs.Book.{Item, Shown, Put, book, cells, has_code, is_id, run_in, target, wish_of}

-- ---- what an entry says of cells

-- whether a message asks for a cell that is to be stored
abbrev pub is_stored : Message → Bool
is_stored m = option_or (λ (e : Execute). e.store_history && not e.silent) false (message_execute m)

-- whether an entry shows that a cell was begun
abbrev pub shows_begin : Option Message → Told → Bool
shows_begin (Some m) (told.Output (ExecuteInput code count)) = true
shows_begin m other = false

-- whether it shows that one has ended
abbrev pub shows_end : Option Message → Told → Bool
shows_end (Some m) (told.Output (ExecuteReply outcome)) = true
shows_end m other = false

-- the cell among these, by its id, for which a stored request is begun
abbrev pub begun_for : List Cell → Option Message → Told → Option (List ℕ)
begun_for cs (Some m) (told.Output (ExecuteInput code count)) = if is_stored m then Some (target cs (wish_of m)) else None
begun_for cs m other = None

-- the stream or the error that it shows
abbrev pub shows_output : Option Message → Told → List Output
shows_output (Some m) (told.Output (Stream text)) = output.Stream (codes "stdout") text ∷ []
shows_output (Some m) (told.Output (Error f)) = output.Error f.ename f.evalue (traceback_text f ∷ []) ∷ []
shows_output m other = []

-- ---- what items say of cells

abbrev pub begins_cell : Item → Bool
begins_cell (Shown e) = shows_begin e.parent e.content
begins_cell (Put n) = false

abbrev pub ends_cell : Item → Bool
ends_cell (Shown e) = shows_end e.parent e.content
ends_cell (Put n) = false

abbrev pub outputs_of : Item → List Output
outputs_of (Shown e) = shows_output e.parent e.content
outputs_of (Put n) = []

-- the streams and errors among these items, which stand newest first, until the next cell was begun
abbrev pub outputs_until : List Item → List Output
outputs_until [] = []
outputs_until (i ∷ items) = outputs_until items ++ (if list_any begins_cell items then [] else outputs_of i)

-- whether a put has the code cell of an id with a count
abbrev pub counts : List ℕ → Notebook → Bool
counts id n = has_code n.cells id && is_some (run_in n.cells id).execution_count

-- whether an item leaves a cell its count and outputs: no stored request is begun for it, and a put has it with a count
abbrev pub leaves : List Cell → List ℕ → Item → Bool
leaves cs id (Shown e) = not (is_id id (begun_for cs e.parent e.content))
leaves cs id (Put n) = counts id n

-- so each of these, which came after the others
abbrev pub AllLeave : Notebook → List ℕ → List Item → List Item → Type 0
AllLeave base id past [] = Unit {0}
AllLeave base id past (i ∷ later) = (leaves (cells base (later ++ past)) id i ≡ true) × AllLeave base id past later

-- no stored request was begun for a cell
abbrev pub begins_other : List Cell → List ℕ → Item → Bool
begins_other cs id (Shown e) = not (is_id id (begun_for cs e.parent e.content))
begins_other cs id (Put n) = true

abbrev pub NeverBegun : Notebook → List ℕ → List Item → Type 0
NeverBegun base id [] = Unit {0}
NeverBegun base id (i ∷ past) = (begins_other (cells base past) id i ≡ true) × NeverBegun base id past

-- the notebook that was put last, or else the first one
abbrev pub last_put : Notebook → List Item → Notebook
last_put base [] = base
last_put base (Shown e ∷ past) = last_put base past
last_put base (Put n ∷ past) = n

-- ---- what a notebook holds

-- the code cell of an id has this count and these outputs
abbrev pub Holds : Notebook → List ℕ → Execution → Type 0
Holds n id run = (has_code n.cells id ≡ true) × (run_in n.cells id ≡ run)

-- this entry begins a stored request, for the cell of that id, with that count
pub record IsBegunFor (base : Notebook) (past : List Item) (e : Entry) (id : List ℕ) (count : ℕ) : Type 0 where
  pub code : List ℕ
  pub content : e.content ≡ told.Output (ExecuteInput code count)
  pub cell : begun_for (cells base past) e.parent e.content ≡ Some id

-- The book of these items, newest first, over a notebook.
pub record CellsAreRecorded (base : Notebook) (items : List Item) : Type 0 where
  -- Where nothing changed a cell since a stored request was begun for it, the cell has that request's count, and the streams
  -- and errors shown since, until the next cell was begun.
  pub begun : (later past : List Item) (e : Entry) (id : List ℕ) (count : ℕ)
      → later ++ Shown e ∷ past ≡ items → IsBegunFor base past e id count → AllLeave base id (Shown e ∷ past) later
      → Holds (book base items) id (record { execution_count = Some (pos count); outputs = outputs_until later })
  -- Where it was put with no count after that request had ended, it has no count, and none of the outputs before.
  pub cleared : (later since past : List Item) (n : Notebook) (e : Entry) (id : List ℕ) (count : ℕ)
      → later ++ Put n ∷ (since ++ Shown e ∷ past) ≡ items → IsBegunFor base past e id count → AllLeave base id (Shown e ∷ past) since
      → has_code n.cells id ≡ true → (run_in n.cells id).execution_count ≡ None
      → list_any (λ (i : Item). begins_cell i || ends_cell i) since ≡ true → AllLeave base id (Put n ∷ (since ++ Shown e ∷ past)) later
      → Holds (book base items) id (record { execution_count = None; outputs = if list_any begins_cell since then [] else outputs_until later })
  -- A cell for which no stored request was begun has what the last put says of it, or else the first notebook.
  pub untouched : (id : List ℕ) → NeverBegun base id items → has_code (book base items).cells id ≡ true
      → run_in (book base items).cells id ≡ run_in (last_put base items).cells id
