-- To be believed.
-- Notebooks as contents ("The Jupyter notebook format", nbformat 4.5).
use Rattle.std.specs.Prelude.{ℕ, List, Option, Some, None, Result, Ok, Err}
use Rattle.serde_json.specs.Data.{Data}
use Rattle.nb_doc.specs.declared.fault.NbFault.{NbFault}
use Rattle.nb_doc.specs.declared.fault.NbBad.{NbBad}
use Rattle.nb_doc.specs.declared.fault.NbBad.TheVariants as bad
use Rattle.nb_doc.specs.declared.notebook.Notebook.{Notebook}
use Rattle.nb_doc.specs.Building.{empty_notebook}
use Rattle.nb_doc.specs.Reading.{notebook_at}
use Rattle.nb_doc.specs.Reading as reading
use Rattle.nb_doc.specs.Writing.{notebook_text}
use Rattle.js_http.specs.declared.response.ErrorStatus.{ErrorStatus}
use Rattle.js_http.specs.declared.response.ErrorStatus.TheVariants.{BadRequest}
use Rattle.js_shelf.specs.declared.item.Item.{Item}
use Rattle.js_shelf.specs.declared.item.Item.TheVariants.{File, Folder}
use Rattle.js_shelf.specs.Shelves.{Contents, Same}
use Rattle.js_tables.specs.declared.refusal.Refusal.{Refusal}
use Rattle.js_tables.specs.declared.refusal.Refusal.TheVariants.{Status, Failed}
use Rattle.js_tables.specs.Plans.{◌>>=◌, Gives}
use Rattle.js_contents.specs.declared.notebook.First.{First}
use Rattle.js_contents.specs.Looks.{present_item_at}

-- what is no notebook is a bad request
abbrev pub or_unreadable : Result Notebook NbFault → Result Notebook ErrorStatus
or_unreadable (Ok n) = Ok n
or_unreadable (Err f) = Err BadRequest

abbrev pub read_answer : Result Notebook NbBad → Result Notebook Refusal
read_answer (Ok n) = Ok n
read_answer (Err (bad.Fault f)) = Err (Status BadRequest)
read_answer (Err bad.Memory) = Err Failed

-- the notebook that bytes are
abbrev pub notebook_in : List ℕ → Result Notebook ErrorStatus
notebook_in bytes = or_unreadable (notebook_at bytes)

-- the notebook that a JSON value is
abbrev pub notebook_of : Data → Result Notebook ErrorStatus
notebook_of d = or_unreadable (reading.notebook_of d)

-- the file that keeps a notebook
unfoldable pub notebook_file : Notebook → Item
notebook_file n = File (notebook_text n)

-- what a recorder begins with, by what stands at its path
abbrev pub read_of : List ℕ → Notebook → Result First ErrorStatus
read_of bytes n = Ok (record { notebook = n; known = Some bytes })

abbrev pub begun_file : List ℕ → Result First ErrorStatus
begun_file bytes = notebook_in bytes >>= read_of bytes

abbrev pub begun : Option Item → Result First ErrorStatus
begun None = Ok (record { notebook = empty_notebook; known = None })
begun (Some Folder) = Err BadRequest
begun (Some (File bytes)) = begun_file bytes

abbrev pub first_notebook : Contents → List ℕ → Result First ErrorStatus
first_notebook m path = present_item_at m path >>= begun

abbrev pub Begins : List ℕ → Result First Refusal → Contents → Contents → Type 0
Begins path result m n = Same m n × Gives result (first_notebook m path)
