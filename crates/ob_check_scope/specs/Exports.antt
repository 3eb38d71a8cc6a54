-- To be believed.
-- What loaded modules export.
use Rattle.std.specs.Prelude.{ℕ, List, [], ◌∷◌, ◌++◌, Option, Some, None, if◌then◌else◌}
use Rattle.std.specs.Str.{bytes_eq}
use Rattle.ob_types.specs.declared.exports.Exported.{Exported}
use Rattle.ob_types.specs.declared.exports.Object.{Object}
use Rattle.ob_types.specs.declared.exports.Object.TheVariants as object
use Rattle.ob_check_scope.specs.LoadedTree.{LoadedTree}

abbrev pub Modules : Type 0
Modules = List LoadedTree

-- what a list of exports has under a name
abbrev pub exported_in : List Exported → List ℕ → Option Object
exported_in [] name = None
exported_in (e ∷ es) name = if bytes_eq e.name name then Some e.object else exported_in es name

abbrev pub names_of : List Exported → List (List ℕ)
names_of [] = []
names_of (e ∷ es) = e.name ∷ names_of es

abbrev pub variable_name : List ℕ → Object → List (List ℕ)
variable_name name (object.Variable t) = name ∷ []
variable_name name _ = []

abbrev pub procedure_name : List ℕ → Object → List (List ℕ)
procedure_name name (object.Procedure s) = name ∷ []
procedure_name name _ = []

-- the names of the variables among these
abbrev pub variables_in : List Exported → List (List ℕ)
variables_in [] = []
variables_in (e ∷ es) = variable_name e.name e.object ++ variables_in es

-- the names of the procedures among these
abbrev pub procedures_in : List Exported → List (List ℕ)
procedures_in [] = []
procedures_in (e ∷ es) = procedure_name e.name e.object ++ procedures_in es

abbrev pub module_names : Modules → List (List ℕ)
module_names [] = []
module_names (m ∷ ms) = m.interface.name ∷ module_names ms
