-- The record types in typed trees have the names of types, and so the shapes that these say.
use Rattle.std.specs.Prelude.{◌≡◌, true}
use Rattle.ob_tree.specs.declared.tree.Module.{Module}
use Rattle.ob_types.specs.declared.structure.ObType.{ObType}
use Rattle.ob_gen.specs.TypesAgree.{Shapes, TypesAgree}
use Rattle.ob_types.specs.Declarable.{is_plain}
use Rattle.ob_check_kinds.specs.Kinds.{name_of}
use Rattle.ob_check_kinds.specs.Shapes.{shape_of}
use Rattle.ob_check_scope.specs.Exports.{Modules}
use Rattle.ob_check_scope.specs.Rule.{gives}
use Rattle.ob_check_module.specs.CheckedTree.{CheckedTree}
use Rattle.ob_check_module.specs.Modules.{module_at}
use Rattle.ob_check_laws.specs.Solid.{EachSolid}

-- the name of a type says the shape of the type
abbrev pub SaysTypes : Shapes → Type 0
SaysTypes shapes = (t : ObType) → is_plain t ≡ true → shapes (name_of t) ≡ shape_of t

-- What the static rules give agrees with all such shapes.
abbrev pub EachTreeAgrees : Type 0
EachTreeAgrees =
    (shapes : Shapes) → SaysTypes shapes → (ms : Modules) (m : Module) (c : CheckedTree) → EachSolid ms → gives (module_at ms m) c
    → TypesAgree shapes c.tree
