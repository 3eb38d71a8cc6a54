-- What a recorder does to the cells of its notebook.
use Rattle.std.specs.Prelude.{◌≡◌, ℕ, pos, List, [], true, false, if◌then◌else◌, Option, None, Some, slice_get}
use Rattle.json_form.specs.Forms.{empty_object}
use Rattle.nb_doc.specs.declared.notebook.Cell.{Cell}
use Rattle.nb_doc.specs.declared.notebook.Content.{Content}
use Rattle.nb_doc.specs.declared.notebook.Content.TheVariants as content
use Rattle.nb_doc.specs.declared.notebook.Execution.{Execution}
use Rattle.nb_doc.specs.declared.notebook.Output.{Output}
use Rattle.nb_doc.specs.Ids.{is_among}
use Rattle.nb_record.specs.Book.{has_code, is_code_at, run_of, run_in, with_run, with_output, is_id, kept_run}

-- the code cell of that id stands at this place, or there is none
abbrev pub IsFound : List Cell → List ℕ → Option ℕ → Type 0
IsFound cs id None = has_code cs id ≡ false
IsFound cs id (Some place) = (c : Cell) × (slice_get cs place ≡ Some c) × (is_code_at id c ≡ true)

-- the run of a cell that begins
abbrev pub started_run : ℕ → Execution
started_run count = record { execution_count = Some (pos count); outputs = [] }

abbrev pub begun_cell : List ℕ → ℕ → Cell → Cell
begun_cell source count c = record { id = c.id; metadata = c.metadata; source = source; content = content.Code (started_run count) }

abbrev pub fresh_cell : List ℕ → List ℕ → ℕ → Cell
fresh_cell id source count = record { id = id; metadata = empty_object; source = source; content = content.Code (started_run count) }

abbrev pub add_output : Output → Content → Content
add_output o (content.Code e) = content.Code (with_output e o)
add_output o (content.Markdown a) = content.Markdown a
add_output o (content.Raw a) = content.Raw a

abbrev pub wrote_cell : Output → Cell → Cell
wrote_cell o c = record { id = c.id; metadata = c.metadata; source = c.source; content = add_output o c.content }

-- the run of a cell that is put, where these cells were executed, one of them perhaps runs, and these stood there before
abbrev pub put_run : List (List ℕ) → Option (List ℕ) → List Cell → Cell → Execution
put_run still going before c =
    if is_among still c.id then kept_run (is_id c.id going) (run_of c.content) (run_in before c.id) else run_of c.content

abbrev pub put_cell : List (List ℕ) → Option (List ℕ) → List Cell → Cell → Cell
put_cell still going before c =
    record { id = c.id; metadata = c.metadata; source = c.source; content = with_run (put_run still going before c) c.content }
