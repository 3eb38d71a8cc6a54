-- What the compiler of a checked module rests on.
use Rattle.std.specs.Prelude.{◌≡◌, List, [], ◌∷◌, Some}
use Rattle.ob_tree.specs.declared.tree.Module.{Module}
use Rattle.ob_mean.specs.declared.face.Face.{Face}
use Rattle.ob_mean.specs.WellFormed.{IsFaceOf, IsWellFormed}
use Rattle.ob_check_scope.specs.Exports.{Modules}
use Rattle.ob_check_scope.specs.Imports.{added}
use Rattle.ob_check_scope.specs.LoadedTree.{LoadedTree}
use Rattle.ob_check_scope.specs.Rule.{gives}
use Rattle.ob_check_module.specs.declared.checked.Imported.{Imported}
use Rattle.ob_check_module.specs.CheckedTree.{CheckedTree}
use Rattle.ob_check_module.specs.Modules.{module_at}
use Rattle.ob_check_laws.specs.Fitting.{face_named, face_of_interface, faces_of}
use Rattle.ob_types.specs.Solid.{ExportsSolid}
use Rattle.ob_check_laws.specs.Solid.{EachSolid}

-- each import has its face: what is known of the loaded module of its name
abbrev pub AreFacesOf : Modules → List Imported → List Face → Type 0
AreFacesOf ms [] [] = Unit {0}
AreFacesOf ms [] (face ∷ faces) = ⊥
AreFacesOf ms (i ∷ is) [] = ⊥
AreFacesOf ms (i ∷ is) (face ∷ faces) = (face_named ms i.name ≡ Some face) × AreFacesOf ms is faces

-- A module that can be compiled over what the interfaces of its imports say, and be imported in its turn: each import is loaded,
-- the tree is well formed over what is known of them, what its own interface says is so of it, and what it exports is solid.
pub record IsCompilable (ms : Modules) (c : CheckedTree) : Type 0 where
  pub known : AreFacesOf ms c.imports (faces_of ms c.imports)
  pub formed : IsWellFormed (faces_of ms c.imports) c.tree
  pub face : IsFaceOf (face_of_interface c.interface) c.tree
  pub solid : ExportsSolid c.interface.exports

-- what the static rules give is so, where what the loaded modules export is solid
abbrev pub EachCheckedIsCompilable : Type 0
EachCheckedIsCompilable = (ms : Modules) (m : Module) (c : CheckedTree) → EachSolid ms → gives (module_at ms m) c → IsCompilable ms c

-- and it is after each load of a module of which that is so
abbrev pub EachLoadStaysSolid : Type 0
EachLoadStaysSolid = (ms : Modules) (m : LoadedTree) → EachSolid ms → ExportsSolid m.interface.exports → EachSolid (added ms m)
