-- Trees in which each number names what is there, and each thing is used as what it is. The static rules give no others,
-- and a compiler may rest on it.
use Rattle.std.specs.Prelude.{◌≡◌, ◌≢◌, ℕ, zero, suc, ◌^◌, ◌<◌, pos, Bool, true, false, Option, Some, None, List, [], ◌∷◌, length, slice_get}
use Rattle.ob_mean.specs.declared.expression.Variable.{Variable}
use Rattle.ob_mean.specs.declared.expression.Variable.TheVariants as variable
use Rattle.ob_mean.specs.declared.expression.Callee.{Callee}
use Rattle.ob_mean.specs.declared.expression.Callee.TheVariants as callee
use Rattle.ob_mean.specs.declared.expression.TypedExpr.{TypedExpr, Row_of-TypedExpr, end_of-TypedExpr, more_of-TypedExpr}
use Rattle.ob_mean.specs.declared.expression.TypedExpr.TheVariants.{Constant, Read, InputDone, Unary', Chain', Every', Either', Texts, Length, Function', Test}
use Rattle.ob_mean.specs.declared.kind.RecordKind.{RecordKind}
use Rattle.ob_mean.specs.declared.expression.Designator.{Designator, end_of-Designator, more_of-Designator}
use Rattle.ob_mean.specs.declared.expression.Designator.TheVariants as designator
use Rattle.ob_mean.specs.declared.expression.Argument.{Argument}
use Rattle.ob_mean.specs.declared.expression.Argument.TheVariants as argument
use Rattle.ob_mean.specs.declared.expression.Argument.TheBlock.{Row_of-Argument, end_of-Argument, more_of-Argument, Row_of-Operation, end_of-Operation, more_of-Operation}
use Rattle.ob_mean.specs.declared.shape.Shape.{Shape, Row_of-Shape, end_of-Shape, more_of-Shape}
use Rattle.ob_mean.specs.declared.shape.Shape.TheVariants.{Basic, Array, Array', Record'}
use Rattle.ob_mean.specs.declared.module.Parameter.{Parameter}
use Rattle.ob_mean.specs.declared.module.Parameter.TheVariants as parameter
use Rattle.ob_mean.specs.declared.module.ModuleVariable.{ModuleVariable}
use Rattle.ob_mean.specs.declared.module.ModuleVariable.TheVariants.{Declared, Text}
use Rattle.ob_mean.specs.declared.module.TypedProcedure.{TypedProcedure}
use Rattle.ob_mean.specs.declared.module.TypedModule.{TypedModule}
use Rattle.ob_mean.specs.declared.module.Loaded.{Loaded}
use Rattle.ob_mean.specs.declared.face.Heading.{Heading}
use Rattle.ob_mean.specs.declared.face.Face.{Face}
use Rattle.ob_mean.specs.declared.statement.Action.{Action}
use Rattle.ob_mean.specs.declared.statement.Action.TheVariants.{Assign, Copy, AssignText, Adjust, Assert, Call, Input, Output}
use Rattle.ob_mean.specs.declared.statement.Reader.{Reader}
use Rattle.ob_mean.specs.declared.statement.Reader.TheVariants as reader
use Rattle.ob_mean.specs.declared.statement.InputCall.{InputCall}
use Rattle.ob_mean.specs.declared.statement.InputCall.TheVariants as incoming
use Rattle.ob_mean.specs.declared.statement.OutputCall.{OutputCall}
use Rattle.ob_mean.specs.declared.statement.OutputCall.TheVariants as outgoing
use Rattle.ob_mean.specs.declared.statement.ForHead.{ForHead}
use Rattle.ob_mean.specs.declared.statement.TypedStatement.{TypedStatement, Row_of-TypedStatement, end_of-TypedStatement, more_of-TypedStatement}
use Rattle.ob_mean.specs.declared.statement.TypedStatement.TheBlock.{Row_of-Branch, end_of-Branch, more_of-Branch, Row_of-CaseArm, end_of-CaseArm, more_of-CaseArm}
use Rattle.ob_mean.specs.declared.statement.TypedStatement.TheVariants.{Simple, If', Case', While', Repeat', For'}
use Rattle.ob_mean.specs.RecordTypes.{TypeNames}
use Rattle.ob_mean.specs.Programs.{Program}
use Rattle.ob_mean.specs.Values.{size}
use Rattle.ob_mean.specs.Shapes.{zero_of, opening_value}

-- ---- what names stand for

-- what stands at a place: an object of a shape, or an array of such elements whose length is its caller's
pub data Object : Type 0 where
  Of : Shape → Object
  OpenOf : Shape → Object

-- what a text can name: what is known of the modules that its module imports, its module's variables and procedures, and
-- the parameters and other variables of its procedure
pub record Names : Type 0 where
  pub faces : List Face
  pub variables : List ModuleVariable
  pub procedures : List TypedProcedure
  pub parameters : List Parameter
  pub own : List Shape

-- ---- procedures

abbrev pub is_there : {A : Type 0} → Option A → Bool
is_there None = false
is_there (Some a) = true

-- what callers know of a procedure
abbrev pub heading_of : TypedProcedure → Heading
heading_of f = record { parameters = f.parameters; is_function = is_there f.result }

abbrev pub own_heading : Option TypedProcedure → Option Heading
own_heading None = None
own_heading (Some f) = Some (heading_of f)

abbrev pub face_heading : Option Face → ℕ → Option Heading
face_heading None place = None
face_heading (Some face) place = slice_get face.procedures place

-- the procedure that is called
abbrev pub called : Names → Callee → Option Heading
called names (callee.OfModule p) = own_heading (slice_get names.procedures p)
called names (callee.OfImport i place) = face_heading (slice_get names.faces i) place

-- ---- variables and their parts

abbrev pub module_object : Option ModuleVariable → Option Object
module_object None = None
module_object (Some (Declared shape)) = Some (Of shape)
module_object (Some (Text characters n)) = Some (Of (Array n Basic))

abbrev pub shape_object : Option Shape → Option Object
shape_object None = None
shape_object (Some shape) = Some (Of shape)

abbrev pub face_object : Option Face → ℕ → Option Object
face_object None x = None
face_object (Some face) x = shape_object (slice_get face.variables x)

-- a parameter that holds a value
abbrev pub value_object : Parameter → Option Object
value_object parameter.Value = Some (Of Basic)
value_object (parameter.Place shape) = None
value_object (parameter.Open shape) = None
value_object (parameter.Extended shape) = None

-- the parameters come first
abbrev pub own_object : List Parameter → List Shape → ℕ → Option Object
own_object [] shapes x = shape_object (slice_get shapes x)
own_object (p ∷ ps) shapes zero = value_object p
own_object (p ∷ ps) shapes (suc x) = own_object ps shapes x

-- what a parameter names
abbrev pub named_object : Option Parameter → Option Object
named_object None = None
named_object (Some parameter.Value) = None
named_object (Some (parameter.Place shape)) = Some (Of shape)
named_object (Some (parameter.Open shape)) = Some (OpenOf shape)
named_object (Some (parameter.Extended shape)) = Some (Of shape)

abbrev pub variable_object : Names → Variable → Option Object
variable_object names (variable.OfModule x) = module_object (slice_get names.variables x)
variable_object names (variable.OfImport i x) = face_object (slice_get names.faces i) x
variable_object names (variable.OfProcedure x) = own_object names.parameters names.own x
variable_object names (variable.ByParameter x) = named_object (slice_get names.parameters x)

abbrev pub element_shape : Shape → Option Shape
element_shape Basic = None
element_shape (Array' n h (more_of-Shape element end_of-Shape)) = Some element
element_shape (Record' k fields) = None

-- the elements of an array
abbrev pub elements_in : Option Object → Option Shape
elements_in None = None
elements_in (Some (Of shape)) = element_shape shape
elements_in (Some (OpenOf shape)) = Some shape

abbrev pub field_at : {k : _} → Row_of-Shape k → ℕ → Option Object
field_at end_of-Shape i = None
field_at (more_of-Shape field rest) zero = Some (Of field)
field_at (more_of-Shape field rest) (suc i) = field_at rest i

abbrev pub field_shape : Shape → ℕ → Option Object
field_shape Basic i = None
field_shape (Array' n h row) i = None
field_shape (Record' k fields) i = field_at fields i

-- a field of a record
abbrev pub field_in : Option Object → ℕ → Option Object
field_in None i = None
field_in (Some (Of shape)) i = field_shape shape i
field_in (Some (OpenOf shape)) i = None

-- ---- record types

-- An operand is a number of 32 bits within one object, so an object has fewer cells than this.
abbrev pub cell_limit : ℕ
cell_limit = 2 ^ 31

-- an object of a shape whose values take so many cells
abbrev pub HasCells : ℕ → Option Object → Type 0
HasCells n None = ⊥
HasCells n (Some (Of shape)) = size (zero_of shape) ≡ n
HasCells n (Some (OpenOf shape)) = ⊥

-- the names of what has this type and of its bases, each with its cells: the base of a record is its first field
abbrev pub AreNamed : TypeNames → Option Object → Type 0
AreNamed [] object = Unit {0}
AreNamed (x ∷ xs) object = HasCells x.cells object × AreNamed xs (field_in object 0)

-- a record type has a name at least, its own, and few cells
pub record KindFits (k : RecordKind) : Type 0 where
  pub named : 0 < length k.names
  pub bases : AreNamed k.names (Some (Of k.shape))
  pub few : size (zero_of k.shape) < cell_limit

-- the base part of a record, so many levels down
abbrev pub base_object : ℕ → Option Object → Option Object
base_object zero object = object
base_object (suc levels) object = field_in (base_object levels object) 0

-- whether a type is told of what it names: it is VAR, of record type
abbrev pub is_extended : Option Parameter → Bool
is_extended None = false
is_extended (Some parameter.Value) = false
is_extended (Some (parameter.Place shape)) = false
is_extended (Some (parameter.Open shape)) = false
is_extended (Some (parameter.Extended shape)) = true

abbrev pub is_told_variable : Names → Variable → Bool
is_told_variable names (variable.OfModule x) = false
is_told_variable names (variable.OfImport i x) = false
is_told_variable names (variable.OfProcedure x) = false
is_told_variable names (variable.ByParameter x) = is_extended (slice_get names.parameters x)

-- and of what is such a parameter, guarded or not
abbrev pub is_told : Names → Designator → Bool
is_told names (designator.Whole v) = is_told_variable names v
is_told names (designator.Element' g d line h row) = false
is_told names (designator.Field' h d i) = false
is_told names (designator.Guarded' h (more_of-Designator d end_of-Designator) line kind levels) = is_told names d

-- what a designator names
abbrev pub object_of : Names → Designator → Option Object
object_of names (designator.Whole v) = variable_object names v
object_of names (designator.Element' g (more_of-Designator d end_of-Designator) line h row) = shape_object (elements_in (object_of names d))
object_of names (designator.Field' h (more_of-Designator d end_of-Designator) i) = field_in (object_of names d) i
object_of names (designator.Guarded' h (more_of-Designator d end_of-Designator) line kind levels) = Some (Of kind.shape)

-- ---- how they are used

-- a variable of basic type
abbrev pub IsBasic : Option Object → Type 0
IsBasic object = object ≡ Some (Of Basic)

-- an array of CHAR
abbrev pub IsText : Option Object → Type 0
IsText object = elements_in object ≡ Some Basic

-- an array whose elements have cells, and so no more elements than its object has cells
abbrev pub IsArray : Option Object → Type 0
IsArray object = (element : Shape) × (elements_in object ≡ Some element) × (0 < size (zero_of element))

-- two structured variables of one shape, neither of them an open array
abbrev pub AreAlike : Option Object → Option Object → Type 0
AreAlike a b = (shape : Shape) × (a ≡ Some (Of shape)) × (b ≡ Some (Of shape))

abbrev mutual
  pub ExprFits : Names → TypedExpr → Type 0
  ExprFits names (Constant v) = Unit {0}
  ExprFits names (Read d) = IndexesFit names d × IsBasic (object_of names d)
  ExprFits names InputDone = Unit {0}
  ExprFits names (Unary' op line h (more_of-TypedExpr a end_of-TypedExpr)) = ExprFits names a
  ExprFits names (Chain' h (more_of-TypedExpr a end_of-TypedExpr) k steps) = ExprFits names a × OperationsFit names steps
  ExprFits names (Every' k es) = ExprsFit names es
  ExprFits names (Either' k es) = ExprsFit names es
  ExprFits names (Texts relation a b) =
      IndexesFit names a × IndexesFit names b × IsText (object_of names a) × IsText (object_of names b)
  ExprFits names (Length d) = IndexesFit names d × IsArray (object_of names d)
  ExprFits names (Function' f line k args) =
      (g : Heading) × (called names f ≡ Some g) × (g.is_function ≡ true) × RowPassed names args g.parameters
  ExprFits names (Test d type) = IndexesFit names d × (is_told names d ≡ true)

  pub ExprsFit : Names → {k : _} → Row_of-TypedExpr k → Type 0
  ExprsFit names end_of-TypedExpr = Unit {0}
  ExprsFit names (more_of-TypedExpr e rest) = ExprFits names e × ExprsFit names rest

  pub OperationsFit : Names → {k : _} → Row_of-Operation k → Type 0
  OperationsFit names end_of-Operation = Unit {0}
  OperationsFit names (more_of-Operation op line e rest) = ExprFits names e × OperationsFit names rest

  -- the indexes in a designator
  pub IndexesFit : Names → Designator → Type 0
  IndexesFit names (designator.Whole v) = Unit {0}
  IndexesFit names (designator.Element' g (more_of-Designator d end_of-Designator) line h (more_of-TypedExpr e end_of-TypedExpr)) =
      IndexesFit names d × ExprFits names e
  IndexesFit names (designator.Field' h (more_of-Designator d end_of-Designator) i) = IndexesFit names d
  IndexesFit names (designator.Guarded' h (more_of-Designator d end_of-Designator) line kind levels) =
      IndexesFit names d × (is_told names d ≡ true) × KindFits kind × (base_object levels (Some (Of kind.shape)) ≡ object_of names d)

  -- what is passed to a parameter
  pub IsPassed : Names → Argument → Parameter → Type 0
  IsPassed names (argument.Value e) parameter.Value = ExprFits names e
  IsPassed names (argument.Place d) (parameter.Place shape) = IndexesFit names d × (object_of names d ≡ Some (Of shape))
  IsPassed names (argument.Open d) (parameter.Open shape) = IndexesFit names d × (elements_in (object_of names d) ≡ Some shape)
  IsPassed names (argument.Typed d kind levels) (parameter.Extended shape) =
      IndexesFit names d × (is_told names d ≡ false) × KindFits kind × (object_of names d ≡ Some (Of kind.shape)) × (base_object levels (object_of names d) ≡ Some (Of shape))
  IsPassed names (argument.Again d levels) (parameter.Extended shape) =
      IndexesFit names d × (is_told names d ≡ true) × (base_object levels (object_of names d) ≡ Some (Of shape))
  IsPassed names (argument.Value e) (parameter.Extended shape) = ⊥
  IsPassed names (argument.Place d) (parameter.Extended shape) = ⊥
  IsPassed names (argument.Open d) (parameter.Extended shape) = ⊥
  IsPassed names (argument.Typed d kind levels) parameter.Value = ⊥
  IsPassed names (argument.Typed d kind levels) (parameter.Place shape) = ⊥
  IsPassed names (argument.Typed d kind levels) (parameter.Open shape) = ⊥
  IsPassed names (argument.Again d levels) parameter.Value = ⊥
  IsPassed names (argument.Again d levels) (parameter.Place shape) = ⊥
  IsPassed names (argument.Again d levels) (parameter.Open shape) = ⊥
  IsPassed names (argument.Value e) (parameter.Place shape) = ⊥
  IsPassed names (argument.Value e) (parameter.Open shape) = ⊥
  IsPassed names (argument.Place d) parameter.Value = ⊥
  IsPassed names (argument.Place d) (parameter.Open shape) = ⊥
  IsPassed names (argument.Open d) parameter.Value = ⊥
  IsPassed names (argument.Open d) (parameter.Place shape) = ⊥

  pub RowPassed : Names → {k : _} → Row_of-Argument k → List Parameter → Type 0
  RowPassed names end_of-Argument [] = Unit {0}
  RowPassed names end_of-Argument (p ∷ ps) = ⊥
  RowPassed names (more_of-Argument a rest) [] = ⊥
  RowPassed names (more_of-Argument a rest) (p ∷ ps) = IsPassed names a p × RowPassed names rest ps

abbrev pub ListPassed : Names → List Argument → List Parameter → Type 0
ListPassed names [] [] = Unit {0}
ListPassed names [] (p ∷ ps) = ⊥
ListPassed names (a ∷ rest) [] = ⊥
ListPassed names (a ∷ rest) (p ∷ ps) = IsPassed names a p × ListPassed names rest ps

-- ---- statements

abbrev pub IsRead : Reader → Option Object → Type 0
IsRead reader.Char object = IsBasic object
IsRead reader.Int object = IsBasic object
IsRead reader.String object = IsText object
IsRead reader.Name object = IsText object

abbrev pub InputFits : Names → InputCall → Type 0
InputFits names incoming.Open = Unit {0}
InputFits names (incoming.Read reader d) = IndexesFit names d × IsRead reader (object_of names d)

abbrev pub OutputFits : Names → OutputCall → Type 0
OutputFits names outgoing.Open = Unit {0}
OutputFits names (outgoing.Char e) = ExprFits names e
OutputFits names (outgoing.String d) = IndexesFit names d × IsText (object_of names d)
OutputFits names (outgoing.Int e width) = ExprFits names e × ExprFits names width
OutputFits names outgoing.Ln = Unit {0}

abbrev pub ActionFits : Names → Action → Type 0
ActionFits names (Assign d e) = IndexesFit names d × IsBasic (object_of names d) × ExprFits names e
ActionFits names (Copy d e) = IndexesFit names d × IndexesFit names e × AreAlike (object_of names d) (object_of names e)
ActionFits names (AssignText d line text) = IndexesFit names d × IsText (object_of names d)
ActionFits names (Adjust a d e) = IndexesFit names d × IsBasic (object_of names d) × ExprFits names e
ActionFits names (Assert line e) = ExprFits names e
ActionFits names (Call f line args) =
    (g : Heading) × (called names f ≡ Some g) × (g.is_function ≡ false) × ListPassed names args g.parameters
ActionFits names (Input call) = InputFits names call
ActionFits names (Output call) = OutputFits names call

-- the step of FOR is not 0
abbrev pub HeadFits : Names → ForHead → Type 0
HeadFits names head = IsBasic (variable_object names head.variable) × ExprFits names head.first × ExprFits names head.last × (head.step ≢ pos 0)

abbrev mutual
  pub StatFits : Names → TypedStatement → Type 0
  StatFits names (Simple action) = ActionFits names action
  StatFits names (If' k bs m rest) = BranchesFit names bs × StatsFit names rest
  StatFits names (Case' line e k arms) = ExprFits names e × ArmsFit names arms
  StatFits names (While' k bs) = BranchesFit names bs
  StatFits names (Repeat' k body e) = StatsFit names body × ExprFits names e
  StatFits names (For' head k body) = HeadFits names head × StatsFit names body

  pub StatsFit : Names → {k : _} → Row_of-TypedStatement k → Type 0
  StatsFit names end_of-TypedStatement = Unit {0}
  StatsFit names (more_of-TypedStatement s rest) = StatFits names s × StatsFit names rest

  pub BranchesFit : Names → {k : _} → Row_of-Branch k → Type 0
  BranchesFit names end_of-Branch = Unit {0}
  BranchesFit names (more_of-Branch e k body rest) = ExprFits names e × StatsFit names body × BranchesFit names rest

  pub ArmsFit : Names → {k : _} → Row_of-CaseArm k → Type 0
  ArmsFit names end_of-CaseArm = Unit {0}
  ArmsFit names (more_of-CaseArm labels k body rest) = StatsFit names body × ArmsFit names rest

abbrev pub ListFits : Names → List TypedStatement → Type 0
ListFits names [] = Unit {0}
ListFits names (s ∷ rest) = StatFits names s × ListFits names rest

-- ---- modules

-- what the body of a module can name
abbrev pub names_in : List Face → TypedModule → Names
names_in faces m = record { faces = faces; variables = m.variables; procedures = m.procedures; parameters = []; own = [] }

-- and a procedure of it
abbrev pub names_of : List Face → TypedModule → TypedProcedure → Names
names_of faces m f = record { faces = faces; variables = m.variables; procedures = m.procedures; parameters = f.parameters; own = f.variables }

abbrev pub ResultFits : Names → Option TypedExpr → Type 0
ResultFits names None = Unit {0}
ResultFits names (Some e) = ExprFits names e

-- each of the variables of these shapes has fewer
abbrev pub ShapesFit : List Shape → Type 0
ShapesFit [] = Unit {0}
ShapesFit (shape ∷ shapes) = (size (zero_of shape) < cell_limit) × ShapesFit shapes

-- and each of the variables of a module
abbrev pub VariablesFit : List ModuleVariable → Type 0
VariablesFit [] = Unit {0}
VariablesFit (v ∷ vs) = (size (opening_value v) < cell_limit) × VariablesFit vs

abbrev pub ProcedureFits : Names → TypedProcedure → Type 0
ProcedureFits names f = ListFits names f.body × ResultFits names f.result × ShapesFit f.variables

abbrev pub ProceduresFit : List Face → TypedModule → List TypedProcedure → Type 0
ProceduresFit faces m [] = Unit {0}
ProceduresFit faces m (f ∷ fs) = ProcedureFits (names_of faces m f) f × ProceduresFit faces m fs

-- numbers of what is there
abbrev pub AllBelow : ℕ → List ℕ → Type 0
AllBelow n [] = Unit {0}
AllBelow n (i ∷ is) = (i < n) × AllBelow n is

abbrev pub FacesFit : List Face → Type 0
FacesFit [] = Unit {0}
FacesFit (face ∷ rest) = ShapesFit face.variables × FacesFit rest

-- a module over what is known of those that it imports
pub record IsWellFormed (faces : List Face) (m : TypedModule) : Type 0 where
  pub known : FacesFit faces
  pub variables : VariablesFit m.variables
  pub exported : AllBelow (length m.procedures) m.exported
  pub procedures : ProceduresFit faces m m.procedures
  pub body : ListFits (names_in faces m) m.body

-- ---- loaded modules

-- the declared variables begin with these
abbrev pub StartWith : List Shape → List ModuleVariable → Type 0
StartWith [] variables = Unit {0}
StartWith (shape ∷ shapes) [] = ⊥
StartWith (shape ∷ shapes) (Declared other ∷ rest) = (shape ≡ other) × StartWith shapes rest
StartWith (shape ∷ shapes) (Text characters n ∷ rest) = ⊥

-- these are the procedures with these numbers
abbrev pub AreHeadings : List Heading → List TypedProcedure → List ℕ → Type 0
AreHeadings [] procedures [] = Unit {0}
AreHeadings [] procedures (p ∷ ps) = ⊥
AreHeadings (h ∷ hs) procedures [] = ⊥
AreHeadings (h ∷ hs) procedures (p ∷ ps) = (own_heading (slice_get procedures p) ≡ Some h) × AreHeadings hs procedures ps

-- what is known of a module is so
pub record IsFaceOf (face : Face) (m : TypedModule) : Type 0 where
  pub variables : StartWith face.variables m.variables
  pub procedures : AreHeadings face.procedures m.procedures m.exported

abbrev pub Shows : Option Loaded → Face → Type 0
Shows None face = ⊥
Shows (Some m) face = IsFaceOf face m.tree

-- each import is a loaded module of this face
abbrev pub AllShow : Program → List ℕ → List Face → Type 0
AllShow program [] [] = Unit {0}
AllShow program [] (face ∷ faces) = ⊥
AllShow program (i ∷ is) [] = ⊥
AllShow program (i ∷ is) (face ∷ faces) = Shows (slice_get program i) face × AllShow program is faces

-- a loaded module that may run, over what is known of those that it imports
pub record IsLinked (program : Program) (faces : List Face) (m : Loaded) : Type 0 where
  pub formed : IsWellFormed faces m.tree
  pub shown : AllShow program m.imports faces
