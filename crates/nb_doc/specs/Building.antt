-- To be believed.
-- Notebooks, cells and outputs that are made.
use Rattle.std.specs.Prelude.{ℕ, ℤ, List, [], ◌∷◌, Option}
use Rattle.json_form.specs.Forms.{empty_object}
use Rattle.nb_doc.specs.declared.notebook.Notebook.{Notebook}
use Rattle.nb_doc.specs.declared.notebook.Cell.{Cell}
use Rattle.nb_doc.specs.declared.notebook.Content.TheVariants as content
use Rattle.nb_doc.specs.declared.notebook.Output.{Output}
use Rattle.nb_doc.specs.declared.notebook.Output.TheVariants as output

abbrev pub empty_notebook : Notebook
empty_notebook = record { cells = []; metadata = empty_object }

-- a cell that begins, with no metadata and no outputs
abbrev pub code_cell : List ℕ → List ℕ → Option ℤ → Cell
code_cell id source count = record { id = id; metadata = empty_object; source = source; content = content.Code (record { execution_count = count; outputs = [] }) }

-- an error whose traceback is one line
abbrev pub error_output : List ℕ → List ℕ → List ℕ → Output
error_output ename evalue line = output.Error ename evalue (line ∷ [])
