-- To be believed.
-- The notebook that comes of a change that somebody else made in a recorder's file: theirs, with what the recorder has that is
-- newer than what it knew of the file.
use Rattle.std.specs.Prelude.{ℕ, Bool, not, ◌&&◌, List, ◌++◌, map, filter, Option, Some, None, is_some, if◌then◌else◌}
use Rattle.std.specs.List.{find}
use Rattle.std.specs.Str.{bytes_eq}
use Rattle.nb_doc.specs.declared.notebook.Notebook.{Notebook}
use Rattle.nb_doc.specs.declared.notebook.Cell.{Cell}
use Rattle.nb_doc.specs.declared.notebook.Content.{Content}
use Rattle.nb_doc.specs.declared.notebook.Content.TheVariants as content
use Rattle.nb_doc.specs.declared.notebook.Execution.{Execution}
use Rattle.nb_doc.specs.Documents.{ids}
use Rattle.nb_doc.specs.Ids.{is_among}
use Rattle.nb_record.specs.Book.{run_of, no_run}

-- the cell of that id
abbrev pub cell_at : List ℕ → List Cell → Option Cell
cell_at id cs = find (λ c. bytes_eq c.id id) cs

abbrev pub run_at : Option Cell → Execution
run_at None = no_run
run_at (Some c) = run_of c.content

abbrev pub has_count : Execution → Bool
has_count e = is_some e.execution_count

-- Their code cell lacks a count, and lacked it when it was known. Where it has one in the recorder's notebook, it has run since,
-- and keeps that run.
abbrev pub joint_run : Option Cell → Option Cell → Execution → Execution
joint_run known own theirs =
    if not (has_count theirs) && not (has_count (run_at known)) && has_count (run_at own) then run_at own else theirs

abbrev pub joint_content : Option Cell → Option Cell → Content → Content
joint_content known own (content.Code theirs) = content.Code (joint_run known own theirs)
joint_content known own (content.Markdown a) = content.Markdown a
joint_content known own (content.Raw a) = content.Raw a

-- a source that they left as it was known is the recorder's
abbrev pub joint_source : Option Cell → Option Cell → List ℕ → List ℕ
joint_source None own theirs = theirs
joint_source (Some known) None theirs = theirs
joint_source (Some known) (Some own) theirs = if bytes_eq theirs known.source then own.source else theirs

abbrev pub joint_with : Option Cell → Option Cell → Cell → Cell
joint_with known own c = record { id = c.id; metadata = c.metadata; source = joint_source known own c.source; content = joint_content known own c.content }

abbrev pub joint_cell : List Cell → List Cell → Cell → Cell
joint_cell known own c = joint_with (cell_at c.id known) (cell_at c.id own) c

-- a cell of the recorder's that was not known, and that they have not
abbrev pub is_newer : List (List ℕ) → List (List ℕ) → Cell → Bool
is_newer known theirs c = not (is_among known c.id) && not (is_among theirs c.id)

-- their cells in their order, and then the newer ones
abbrev pub joint_cells : List Cell → List Cell → List Cell → List Cell
joint_cells known own theirs = map (joint_cell known own) theirs ++ filter (is_newer (ids known) (ids theirs)) own

abbrev pub joint : Notebook → Notebook → Notebook → Notebook
joint known own theirs = record { cells = joint_cells known.cells own.cells theirs.cells; metadata = theirs.metadata }
