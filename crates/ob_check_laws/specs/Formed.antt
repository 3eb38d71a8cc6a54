-- Well-formed trees, as ob_mean's WellFormed says, in which the kind of each record type is that of a type which a declaration can
-- make: what the static rules are shown to give.
use Rattle.std.specs.Prelude.{◌≡◌, ◌≢◌, pos, true, false, Option, Some, None, List, [], ◌∷◌, length}
use Rattle.ob_mean.specs.declared.expression.TypedExpr.{TypedExpr, Row_of-TypedExpr, end_of-TypedExpr, more_of-TypedExpr}
use Rattle.ob_mean.specs.declared.expression.TypedExpr.TheVariants.{Constant, Read, InputDone, Unary', Chain', Every', Either', Texts, Length, Function', Test}
use Rattle.ob_mean.specs.declared.expression.Designator.{Designator, end_of-Designator, more_of-Designator}
use Rattle.ob_mean.specs.declared.expression.Designator.TheVariants as designator
use Rattle.ob_mean.specs.declared.expression.Argument.{Argument}
use Rattle.ob_mean.specs.declared.expression.Argument.TheVariants as argument
use Rattle.ob_mean.specs.declared.expression.Argument.TheBlock.{Row_of-Argument, end_of-Argument, more_of-Argument, Row_of-Operation, end_of-Operation, more_of-Operation}
use Rattle.ob_mean.specs.declared.module.Parameter.{Parameter}
use Rattle.ob_mean.specs.declared.module.Parameter.TheVariants as parameter
use Rattle.ob_mean.specs.declared.module.TypedProcedure.{TypedProcedure}
use Rattle.ob_mean.specs.declared.module.TypedModule.{TypedModule}
use Rattle.ob_mean.specs.declared.kind.RecordKind.{RecordKind}
use Rattle.ob_mean.specs.declared.face.Heading.{Heading}
use Rattle.ob_mean.specs.declared.face.Face.{Face}
use Rattle.ob_mean.specs.declared.statement.Action.{Action}
use Rattle.ob_mean.specs.declared.statement.Action.TheVariants.{Assign, Copy, AssignText, Adjust, Assert, Call, Input, Output}
use Rattle.ob_mean.specs.declared.statement.InputCall.{InputCall}
use Rattle.ob_mean.specs.declared.statement.InputCall.TheVariants as incoming
use Rattle.ob_mean.specs.declared.statement.OutputCall.{OutputCall}
use Rattle.ob_mean.specs.declared.statement.OutputCall.TheVariants as outgoing
use Rattle.ob_mean.specs.declared.statement.ForHead.{ForHead}
use Rattle.ob_mean.specs.declared.statement.TypedStatement.{TypedStatement, Row_of-TypedStatement, end_of-TypedStatement, more_of-TypedStatement}
use Rattle.ob_mean.specs.declared.statement.TypedStatement.TheBlock.{Row_of-Branch, end_of-Branch, more_of-Branch, Row_of-CaseArm, end_of-CaseArm, more_of-CaseArm}
use Rattle.ob_mean.specs.declared.statement.TypedStatement.TheVariants.{Simple, If', Case', While', Repeat', For'}
use Rattle.ob_mean.specs.WellFormed.{Names, Of, is_told, base_object, object_of, variable_object, elements_in, called, IsBasic, IsText, IsArray, AreAlike, IsRead, ShapesFit, VariablesFit, AllBelow, FacesFit, names_in, names_of}
use Rattle.ob_types.specs.declared.structure.ObType.{ObType}
use Rattle.ob_types.specs.Declarable.{is_declarable}
use Rattle.ob_check_kinds.specs.Kinds.{kind_of}

abbrev pub IsKind : RecordKind → Type 0
IsKind k = (t : ObType) × (is_declarable t ≡ true) × (k ≡ kind_of t)

abbrev mutual
  pub ExprFits : Names → TypedExpr → Type 0
  ExprFits names (Constant v) = Unit {0}
  ExprFits names (Read d) = IndexesFit names d × IsBasic (object_of names d)
  ExprFits names InputDone = Unit {0}
  ExprFits names (Unary' op line h (more_of-TypedExpr a end_of-TypedExpr)) = ExprFits names a
  ExprFits names (Chain' h (more_of-TypedExpr a end_of-TypedExpr) k steps) = ExprFits names a × OperationsFit names steps
  ExprFits names (Every' k es) = ExprsFit names es
  ExprFits names (Either' k es) = ExprsFit names es
  ExprFits names (Texts relation a b) =
      IndexesFit names a × IndexesFit names b × IsText (object_of names a) × IsText (object_of names b)
  ExprFits names (Length d) = IndexesFit names d × IsArray (object_of names d)
  ExprFits names (Function' f line k args) =
      (g : Heading) × (called names f ≡ Some g) × (g.is_function ≡ true) × RowPassed names args g.parameters
  ExprFits names (Test d type) = IndexesFit names d × (is_told names d ≡ true)

  pub ExprsFit : Names → {k : _} → Row_of-TypedExpr k → Type 0
  ExprsFit names end_of-TypedExpr = Unit {0}
  ExprsFit names (more_of-TypedExpr e rest) = ExprFits names e × ExprsFit names rest

  pub OperationsFit : Names → {k : _} → Row_of-Operation k → Type 0
  OperationsFit names end_of-Operation = Unit {0}
  OperationsFit names (more_of-Operation op line e rest) = ExprFits names e × OperationsFit names rest

  -- the indexes in a designator
  pub IndexesFit : Names → Designator → Type 0
  IndexesFit names (designator.Whole v) = Unit {0}
  IndexesFit names (designator.Element' g (more_of-Designator d end_of-Designator) line h (more_of-TypedExpr e end_of-TypedExpr)) =
      IndexesFit names d × ExprFits names e
  IndexesFit names (designator.Field' h (more_of-Designator d end_of-Designator) i) = IndexesFit names d
  IndexesFit names (designator.Guarded' h (more_of-Designator d end_of-Designator) line kind levels) =
      IndexesFit names d × (is_told names d ≡ true) × IsKind kind × (base_object levels (Some (Of kind.shape)) ≡ object_of names d)

  -- what is passed to a parameter
  pub IsPassed : Names → Argument → Parameter → Type 0
  IsPassed names (argument.Value e) parameter.Value = ExprFits names e
  IsPassed names (argument.Place d) (parameter.Place shape) = IndexesFit names d × (object_of names d ≡ Some (Of shape))
  IsPassed names (argument.Open d) (parameter.Open shape) = IndexesFit names d × (elements_in (object_of names d) ≡ Some shape)
  IsPassed names (argument.Typed d kind levels) (parameter.Extended shape) =
      IndexesFit names d × (is_told names d ≡ false) × IsKind kind × (object_of names d ≡ Some (Of kind.shape)) × (base_object levels (object_of names d) ≡ Some (Of shape))
  IsPassed names (argument.Again d levels) (parameter.Extended shape) =
      IndexesFit names d × (is_told names d ≡ true) × (base_object levels (object_of names d) ≡ Some (Of shape))
  IsPassed names (argument.Value e) (parameter.Extended shape) = ⊥
  IsPassed names (argument.Place d) (parameter.Extended shape) = ⊥
  IsPassed names (argument.Open d) (parameter.Extended shape) = ⊥
  IsPassed names (argument.Typed d kind levels) parameter.Value = ⊥
  IsPassed names (argument.Typed d kind levels) (parameter.Place shape) = ⊥
  IsPassed names (argument.Typed d kind levels) (parameter.Open shape) = ⊥
  IsPassed names (argument.Again d levels) parameter.Value = ⊥
  IsPassed names (argument.Again d levels) (parameter.Place shape) = ⊥
  IsPassed names (argument.Again d levels) (parameter.Open shape) = ⊥
  IsPassed names (argument.Value e) (parameter.Place shape) = ⊥
  IsPassed names (argument.Value e) (parameter.Open shape) = ⊥
  IsPassed names (argument.Place d) parameter.Value = ⊥
  IsPassed names (argument.Place d) (parameter.Open shape) = ⊥
  IsPassed names (argument.Open d) parameter.Value = ⊥
  IsPassed names (argument.Open d) (parameter.Place shape) = ⊥

  pub RowPassed : Names → {k : _} → Row_of-Argument k → List Parameter → Type 0
  RowPassed names end_of-Argument [] = Unit {0}
  RowPassed names end_of-Argument (p ∷ ps) = ⊥
  RowPassed names (more_of-Argument a rest) [] = ⊥
  RowPassed names (more_of-Argument a rest) (p ∷ ps) = IsPassed names a p × RowPassed names rest ps

abbrev pub ListPassed : Names → List Argument → List Parameter → Type 0
ListPassed names [] [] = Unit {0}
ListPassed names [] (p ∷ ps) = ⊥
ListPassed names (a ∷ rest) [] = ⊥
ListPassed names (a ∷ rest) (p ∷ ps) = IsPassed names a p × ListPassed names rest ps

-- ---- statements

abbrev pub InputFits : Names → InputCall → Type 0
InputFits names incoming.Open = Unit {0}
InputFits names (incoming.Read reader d) = IndexesFit names d × IsRead reader (object_of names d)

abbrev pub OutputFits : Names → OutputCall → Type 0
OutputFits names outgoing.Open = Unit {0}
OutputFits names (outgoing.Char e) = ExprFits names e
OutputFits names (outgoing.String d) = IndexesFit names d × IsText (object_of names d)
OutputFits names (outgoing.Int e width) = ExprFits names e × ExprFits names width
OutputFits names outgoing.Ln = Unit {0}

abbrev pub ActionFits : Names → Action → Type 0
ActionFits names (Assign d e) = IndexesFit names d × IsBasic (object_of names d) × ExprFits names e
ActionFits names (Copy d e) = IndexesFit names d × IndexesFit names e × AreAlike (object_of names d) (object_of names e)
ActionFits names (AssignText d line text) = IndexesFit names d × IsText (object_of names d)
ActionFits names (Adjust a d e) = IndexesFit names d × IsBasic (object_of names d) × ExprFits names e
ActionFits names (Assert line e) = ExprFits names e
ActionFits names (Call f line args) =
    (g : Heading) × (called names f ≡ Some g) × (g.is_function ≡ false) × ListPassed names args g.parameters
ActionFits names (Input call) = InputFits names call
ActionFits names (Output call) = OutputFits names call

-- the step of FOR is not 0
abbrev pub HeadFits : Names → ForHead → Type 0
HeadFits names head = IsBasic (variable_object names head.variable) × ExprFits names head.first × ExprFits names head.last × (head.step ≢ pos 0)

abbrev mutual
  pub StatFits : Names → TypedStatement → Type 0
  StatFits names (Simple action) = ActionFits names action
  StatFits names (If' k bs m rest) = BranchesFit names bs × StatsFit names rest
  StatFits names (Case' line e k arms) = ExprFits names e × ArmsFit names arms
  StatFits names (While' k bs) = BranchesFit names bs
  StatFits names (Repeat' k body e) = StatsFit names body × ExprFits names e
  StatFits names (For' head k body) = HeadFits names head × StatsFit names body

  pub StatsFit : Names → {k : _} → Row_of-TypedStatement k → Type 0
  StatsFit names end_of-TypedStatement = Unit {0}
  StatsFit names (more_of-TypedStatement s rest) = StatFits names s × StatsFit names rest

  pub BranchesFit : Names → {k : _} → Row_of-Branch k → Type 0
  BranchesFit names end_of-Branch = Unit {0}
  BranchesFit names (more_of-Branch e k body rest) = ExprFits names e × StatsFit names body × BranchesFit names rest

  pub ArmsFit : Names → {k : _} → Row_of-CaseArm k → Type 0
  ArmsFit names end_of-CaseArm = Unit {0}
  ArmsFit names (more_of-CaseArm labels k body rest) = StatsFit names body × ArmsFit names rest

abbrev pub ListFits : Names → List TypedStatement → Type 0
ListFits names [] = Unit {0}
ListFits names (s ∷ rest) = StatFits names s × ListFits names rest

-- ---- modules

abbrev pub ResultFits : Names → Option TypedExpr → Type 0
ResultFits names None = Unit {0}
ResultFits names (Some e) = ExprFits names e

abbrev pub ProcedureFits : Names → TypedProcedure → Type 0
ProcedureFits names f = ListFits names f.body × ResultFits names f.result × ShapesFit f.variables

abbrev pub ProceduresFit : List Face → TypedModule → List TypedProcedure → Type 0
ProceduresFit faces m [] = Unit {0}
ProceduresFit faces m (f ∷ fs) = ProcedureFits (names_of faces m f) f × ProceduresFit faces m fs

-- a module over what is known of those that it imports
pub record IsFormed (faces : List Face) (m : TypedModule) : Type 0 where
  pub known : FacesFit faces
  pub variables : VariablesFit m.variables
  pub exported : AllBelow (length m.procedures) m.exported
  pub procedures : ProceduresFit faces m m.procedures
  pub body : ListFits (names_in faces m) m.body
