-- To be believed.
-- What is said of what stands at a path: a notebook is a file whose name ends in `.ipynb`.
use Rattle.std.specs.Prelude.{ℕ, nat_eq, Bool, List, if◌then◌else◌, codes}
use Rattle.std.specs.List.{ends_with}
use Rattle.js_tables.specs.declared.forms.About.{About}
use Rattle.js_tables.specs.declared.forms.Kind.{Kind}
use Rattle.js_tables.specs.declared.forms.Kind.TheVariants as kind
use Rattle.js_tables.specs.Tables.{Rows, date_at}
use Rattle.js_contents.specs.declared.place.Place.{Place}

abbrev pub is_notebook_name : List ℕ → Bool
is_notebook_name name = ends_with nat_eq name (codes ".ipynb")

-- the kind of a thing, by whether it is a folder and by its name
abbrev pub kind_for : Bool → List ℕ → Kind
kind_for is_folder name =
    if is_folder then kind.Directory else (if is_notebook_name name then kind.Notebook else kind.File)

abbrev pub about_at : Place → Bool → List ℕ → About
about_at place is_folder date =
    record { kind = kind_for is_folder place.name; path = place.path; name = place.name; date = date }

abbrev pub about : Rows → Place → Bool → About
about r place is_folder = about_at place is_folder (date_at place.path r)
