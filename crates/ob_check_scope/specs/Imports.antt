-- To be believed.
-- The modules that are loaded.
use Rattle.std.specs.Prelude.{ℕ, List, [], ◌∷◌, Bool, false, Option, Some, None, slice_get, codes, if◌then◌else◌}
use Rattle.std.specs.Str.{bytes_eq}
use Rattle.ob_types.specs.declared.exports.Object.{Object}
use Rattle.ob_check_scope.specs.LoadedTree.{LoadedTree}
pub use Rattle.ob_check_scope.specs.Exports.{Modules}
use Rattle.ob_check_scope.specs.Exports.{exported_in, variables_in, procedures_in, module_names}
use Rattle.ob_check_scope.specs.Names.{place_in, is_among}
use Rattle.ob_check_scope.specs.declared.imports.StandardName.{StandardName}
use Rattle.ob_check_scope.specs.declared.imports.StandardName.TheVariants as standard

-- ---- what a loaded module exports

-- what the loaded module at a place exports under a name
abbrev pub exported_by : Option LoadedTree → List ℕ → Option Object
exported_by None name = None
exported_by (Some m) name = exported_in m.interface.exports name

unfoldable pub exported_at : Modules → ℕ → List ℕ → Option Object
exported_at ms place name = exported_by (slice_get ms place) name

-- ---- variables and procedures are numbered, each kind by itself

abbrev pub or_zero : Option ℕ → ℕ
or_zero None = 0
or_zero (Some n) = n

abbrev pub variable_by : Option LoadedTree → List ℕ → ℕ
variable_by None name = 0
variable_by (Some m) name = or_zero (place_in (variables_in m.interface.exports) name)

abbrev pub procedure_by : Option LoadedTree → List ℕ → ℕ
procedure_by None name = 0
procedure_by (Some m) name = or_zero (place_in (procedures_in m.interface.exports) name)

-- the number of an exported variable among the variables that the loaded module at a place exports
unfoldable pub variable_number : Modules → ℕ → List ℕ → ℕ
variable_number ms place name = variable_by (slice_get ms place) name

-- the number of an exported procedure among the procedures that it exports
unfoldable pub procedure_number : Modules → ℕ → List ℕ → ℕ
procedure_number ms place name = procedure_by (slice_get ms place) name

-- ---- modules by their names

-- the place of the loaded module of a name
unfoldable pub module_place : Modules → List ℕ → Option ℕ
module_place ms name = place_in (module_names ms) name

-- a module more, in the place of the one that has its name
abbrev pub added : Modules → LoadedTree → Modules
added [] m = m ∷ []
added (n ∷ ns) m = if bytes_eq n.interface.name m.interface.name then m ∷ ns else n ∷ added ns m

-- whether a loaded module reaches another by its imports and theirs
abbrev pub reaches : Option LoadedTree → List ℕ → Bool
reaches None name = false
reaches (Some m) name = is_among m.reached name

-- ---- the modules that are there without being loaded

abbrev pub standard_named : List ℕ → StandardName
standard_named name =
    if bytes_eq name (codes "Out") then standard.Out
    else (if bytes_eq name (codes "In") then standard.In
    else (if bytes_eq name (codes "SYSTEM") then standard.System else standard.Other))
