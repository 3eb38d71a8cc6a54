-- To be believed.
-- The interface that the declarations of a module make.
use Rattle.std.specs.Prelude.{ℕ, List, [], ◌∷◌, ◌++◌, Bool, true, Option, Some, None}
use Rattle.ob_types.specs.InterfaceTree.{InterfaceTree}
use Rattle.ob_types.specs.declared.exports.Exported.{Exported}
use Rattle.ob_types.specs.declared.exports.Object.{Object}
use Rattle.ob_types.specs.declared.exports.Object.TheVariants as object
use Rattle.ob_check_scope.specs.declared.block.Declared.{Declared}
use Rattle.ob_check_scope.specs.declared.block.Entry.{Entry}
use Rattle.ob_check_scope.specs.declared.block.Entry.TheVariants as entry

-- what other modules see of a declaration
abbrev pub object_of : Entry → Option Object
object_of (entry.Constant c) = Some (object.Constant c)
object_of (entry.TypeName t) = Some (object.TypeName t)
object_of (entry.Variable t standing) = Some (object.Variable t)
object_of (entry.Procedure s number) = Some (object.Procedure s)
object_of _ = None

abbrev pub exported_of : List ℕ → Bool → Option Object → List Exported
exported_of name true (Some o) = record { name = name; object = o } ∷ []
exported_of name _ _ = []

-- the declarations with a mark, in their order
abbrev pub exports_of : List Declared → List Exported
exports_of [] = []
exports_of (d ∷ ds) = exported_of d.name d.exported (object_of d.entry) ++ exports_of ds

abbrev pub interface_of : List ℕ → List Declared → InterfaceTree
interface_of name ds = record { name = name; exports = exports_of ds }

-- the numbers of the procedures with a mark, in their order
abbrev pub number_of : Bool → Entry → List ℕ
number_of true (entry.Procedure s number) = number ∷ []
number_of _ _ = []

abbrev pub exported_procedures : List Declared → List ℕ
exported_procedures [] = []
exported_procedures (d ∷ ds) = number_of d.exported d.entry ++ exported_procedures ds
