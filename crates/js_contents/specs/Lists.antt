-- To be believed.
-- What stands in a folder.
use Rattle.std.specs.Prelude.{◌≡◌, ℕ, List, map, Option, Some, None}
use Rattle.serde_json.specs.Data.{Data}
use Rattle.serde_json.specs.View.{view}
use Rattle.serde_json.specs.declared.value.Value.{Value}
use Rattle.js_shelf.specs.Shelves.{Contents, Same}
use Rattle.js_tables.specs.Tables.{Rows}
use Rattle.js_contents.specs.Kinds.{about}
use Rattle.js_contents.specs.Looks.{has_folder}
use Rattle.js_contents.specs.Places.{child}
use Rattle.js_contents.specs.Forms.{bare_form}

-- what stands under a name, without its content
abbrev pub object : Contents → Rows → List ℕ → List ℕ → Data
object m r folder name = bare_form (about r (child folder name) (has_folder m (child folder name).path))

abbrev pub objects : Contents → Rows → List ℕ → List (List ℕ) → List Data
objects m r folder names = map (object m r folder) names

abbrev pub IfValue : Option Value → Data → Type 0
IfValue None d = Unit {0}
IfValue (Some v) d = view v ≡ d

abbrev pub IfRow : Option (List Data) → List Data → Type 0
IfRow None ds = Unit {0}
IfRow (Some row) ds = row ≡ ds

abbrev pub ShowsObject : Rows → List ℕ → List ℕ → Option Value → Contents → Contents → Type 0
ShowsObject r folder name result m n = Same m n × IfValue result (object m r folder name)

abbrev pub ShowsObjects : Rows → List ℕ → List (List ℕ) → Option (List Data) → Contents → Contents → Type 0
ShowsObjects r folder names result m n = Same m n × IfRow result (objects m r folder names)
