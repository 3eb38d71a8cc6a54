-- What the static rules go through, beside what a module can name: the parts of a tree that are lists, operands, scopes.
use Rattle.std.specs.Prelude.{◌≡◌, ℕ, Bool, true, List, [], ◌∷◌, ◌++◌, Option, Some, None, ◌⊎◌, slice_get, is_some, if◌then◌else◌}
use Rattle.std.specs.Str.{bytes_eq}
use Rattle.ob_tree.specs.declared.tree.Module.{Module}
use Rattle.ob_types.specs.declared.exports.Exported.{Exported}
use Rattle.ob_types.specs.declared.exports.Object.{Object}
use Rattle.ob_types.specs.declared.exports.Object.TheVariants as exported
use Rattle.ob_types.specs.declared.exports.Signature.{Signature}
use Rattle.ob_types.specs.declared.structure.ObType.{ObType}
use Rattle.ob_types.specs.declared.structure.ObType.TheVariants.{Open}
use Rattle.ob_types.specs.InterfaceTree.{InterfaceTree}
use Rattle.ob_mean.specs.declared.expression.TypedExpr.{TypedExpr}
use Rattle.ob_mean.specs.declared.expression.Operation.{Operation}
use Rattle.ob_mean.specs.declared.expression.Callee.TheVariants as callee
use Rattle.ob_mean.specs.declared.face.Heading.{Heading}
use Rattle.ob_mean.specs.declared.face.Face.{Face}
use Rattle.ob_mean.specs.declared.shape.Shape.{Shape}
use Rattle.ob_mean.specs.declared.statement.Branch.{Branch, out-Branch}
use Rattle.ob_mean.specs.declared.statement.CaseArm.{CaseArm, out-CaseArm}
use Rattle.ob_mean.specs.WellFormed.{Names, Object as Named, Of, OpenOf, IsFaceOf, IsWellFormed, object_of, variable_object, is_told_variable, called}
use Rattle.ob_check_scope.specs.declared.block.Entry.{Entry}
use Rattle.ob_check_scope.specs.declared.block.Entry.TheVariants as entry
use Rattle.ob_check_scope.specs.declared.scope.Scope.{Scope}
use Rattle.ob_check_scope.specs.LoadedTree.{LoadedTree}
use Rattle.ob_check_scope.specs.Exports.{Modules}
use Rattle.ob_check_scope.specs.Scope.{seen, variable_of}
use Rattle.ob_check_operand.specs.declared.operand.Operand.{Operand}
use Rattle.ob_check_operand.specs.declared.operand.Operand.TheVariants as operand
use Rattle.ob_check_operand.specs.Names.{tells}
use Rattle.ob_types.specs.Declarable.{is_record}
use Rattle.ob_check_scope.specs.Rule.{gives}
use Rattle.ob_check_module.specs.declared.checked.Imported.{Imported}
use Rattle.ob_check_module.specs.CheckedTree.{CheckedTree}
use Rattle.ob_check_module.specs.Modules.{module_at}
use Rattle.ob_check_kinds.specs.Shapes.{shape_of, parameters_of}
use Rattle.ob_types.specs.Solid.{IsSolid, ExportsSolid}
use Rattle.ob_check_laws.specs.Solid.{LoadedSolid, EachSolid}
use Rattle.ob_check_laws.specs.Formed.{ExprFits, IndexesFit, ListFits}

-- ---- what is known of a module by its interface

abbrev pub variable_shape : Object → List Shape
variable_shape (exported.Variable t) = shape_of t ∷ []
variable_shape _ = []

abbrev pub variable_shapes : List Exported → List Shape
variable_shapes [] = []
variable_shapes (e ∷ es) = variable_shape e.object ++ variable_shapes es

abbrev pub heading_of : Signature → Heading
heading_of s = record { parameters = parameters_of s.formals; is_function = is_some s.result }

abbrev pub procedure_heading : Object → List Heading
procedure_heading (exported.Procedure s) = heading_of s ∷ []
procedure_heading _ = []

abbrev pub procedure_headings : List Exported → List Heading
procedure_headings [] = []
procedure_headings (e ∷ es) = procedure_heading e.object ++ procedure_headings es

-- the exported variables and procedures, in order of declaration
abbrev pub face_of_interface : InterfaceTree → Face
face_of_interface i = record { variables = variable_shapes i.exports; procedures = procedure_headings i.exports }

-- ---- lists in trees

abbrev pub ExprListFits : Names → List TypedExpr → Type 0
ExprListFits names [] = Unit {0}
ExprListFits names (e ∷ es) = ExprFits names e × ExprListFits names es

abbrev pub OperationListFits : Names → List Operation → Type 0
OperationListFits names [] = Unit {0}
OperationListFits names (o ∷ os) = ExprFits names o.operand × OperationListFits names os

abbrev pub BranchListFits : Names → List Branch → Type 0
BranchListFits names [] = Unit {0}
BranchListFits names (b ∷ bs) = ExprFits names (out-Branch b).guard × ListFits names (out-Branch b).body × BranchListFits names bs

abbrev pub ArmListFits : Names → List CaseArm → Type 0
ArmListFits names [] = Unit {0}
ArmListFits names (a ∷ arms) = ListFits names (out-CaseArm a).body × ArmListFits names arms

-- ---- variables and operands

-- what stands at a place is of a type: an open array is one of any length, or what stands for an element that is one
abbrev pub Suits : ObType → Option Named → Type 0
Suits t o = (o ≡ Some (Of (shape_of t))) ⊎ ((e : ObType) × (t ≡ Open e) × (o ≡ Some (OpenOf (shape_of e))))

abbrev pub OperandFits : Names → Operand → Type 0
OperandFits names (operand.Value b x) = ExprFits names x
OperandFits names (operand.Text t) = Unit {0}
OperandFits names (operand.Place t d) = IndexesFit names d × Suits t (object_of names d) × IsSolid t

-- of a record, whether a type is told of it is so
abbrev pub TellsRight : ObType → Bool → Bool → Type 0
TellsRight t told is = is_record t ≡ true → told ≡ is

-- a list begins with another
abbrev pub StartsWith : {A : Type 0} → List A → List A → Type 0
StartsWith {A} all first = (rest : List A) × (all ≡ first ++ rest)

-- ---- scopes

abbrev pub face_of_loaded : LoadedTree → Face
face_of_loaded m = face_of_interface m.interface

abbrev pub loaded_face : Option LoadedTree → Option Face
loaded_face None = None
loaded_face (Some m) = Some (face_of_loaded m)

-- what a name stands for is there
abbrev pub EntryFits : Modules → Names → Scope → Entry → Type 0
EntryFits ms names s (entry.Constant c) = Unit {0}
EntryFits ms names s (entry.TypeName t) = Unit {0}
EntryFits ms names s (entry.Variable t place) =
    Suits t (variable_object names (variable_of s place)) × IsSolid t × TellsRight t (tells place) (is_told_variable names (variable_of s place))
EntryFits ms names s (entry.Procedure p n) = called names (callee.OfModule n) ≡ Some (heading_of p)
EntryFits ms names s entry.In = Unit {0}
EntryFits ms names s entry.Out = Unit {0}
EntryFits ms names s (entry.Module i place) = (slice_get names.faces i ≡ loaded_face (slice_get ms place)) × LoadedSolid (slice_get ms place)

abbrev pub ScopeFits : Modules → Names → Scope → Type 0
ScopeFits ms names s = (name : List ℕ) (e : Entry) → seen s name ≡ Some e → EntryFits ms names s e

-- ---- modules

abbrev pub with_face : Option Face → List Face
with_face None = []
with_face (Some face) = face ∷ []

-- what is known of the loaded module of a name
abbrev pub face_named : Modules → List ℕ → Option Face
face_named [] name = None
face_named (m ∷ ms) name = if bytes_eq m.interface.name name then Some (face_of_loaded m) else face_named ms name

-- and of those that are imported
abbrev pub faces_of : Modules → List Imported → List Face
faces_of ms [] = []
faces_of ms (i ∷ is) = with_face (face_named ms i.name) ++ faces_of ms is

-- What the static rules give is well formed over what the interfaces of its imports say, where what these export is solid. What its
-- own interface says is so of it, and what it exports is solid too.
abbrev pub EachCheckedFits : Type 0
EachCheckedFits =
    (ms : Modules) (m : Module) (c : CheckedTree) → EachSolid ms → gives (module_at ms m) c
    → IsWellFormed (faces_of ms c.imports) c.tree × IsFaceOf (face_of_interface c.interface) c.tree × ExportsSolid c.interface.exports
