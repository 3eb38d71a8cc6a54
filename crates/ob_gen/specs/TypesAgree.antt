-- Over all modules of a program the name of a record type is that of one shape. Machine and meaning tell record types apart
-- by their names, so where one name is told, a record of that shape is there.
use Rattle.std.specs.Prelude.{◌≡◌, Option, Some, None, List, [], ◌∷◌}
use Rattle.ob_mean.specs.declared.kind.TypeName.{TypeName}
use Rattle.ob_mean.specs.declared.kind.RecordKind.{RecordKind}
use Rattle.ob_mean.specs.declared.shape.Shape.{Shape}
use Rattle.ob_mean.specs.declared.expression.TypedExpr.{TypedExpr, Row_of-TypedExpr, end_of-TypedExpr, more_of-TypedExpr}
use Rattle.ob_mean.specs.declared.expression.TypedExpr.TheVariants.{Constant, Read, InputDone, Unary', Chain', Every', Either', Texts, Length, Function', Test}
use Rattle.ob_mean.specs.declared.expression.Designator.{Designator, end_of-Designator, more_of-Designator}
use Rattle.ob_mean.specs.declared.expression.Designator.TheVariants as designator
use Rattle.ob_mean.specs.declared.expression.Argument.{Argument}
use Rattle.ob_mean.specs.declared.expression.Argument.TheVariants as argument
use Rattle.ob_mean.specs.declared.expression.Argument.TheBlock.{Row_of-Argument, end_of-Argument, more_of-Argument, Row_of-Operation, end_of-Operation, more_of-Operation}
use Rattle.ob_mean.specs.declared.statement.Action.{Action}
use Rattle.ob_mean.specs.declared.statement.Action.TheVariants.{Assign, Copy, AssignText, Adjust, Assert, Call, Input, Output}
use Rattle.ob_mean.specs.declared.statement.InputCall.{InputCall}
use Rattle.ob_mean.specs.declared.statement.InputCall.TheVariants as incoming
use Rattle.ob_mean.specs.declared.statement.OutputCall.{OutputCall}
use Rattle.ob_mean.specs.declared.statement.OutputCall.TheVariants as outgoing
use Rattle.ob_mean.specs.declared.statement.ForHead.{ForHead}
use Rattle.ob_mean.specs.declared.statement.TypedStatement.{TypedStatement, Row_of-TypedStatement, end_of-TypedStatement, more_of-TypedStatement}
use Rattle.ob_mean.specs.declared.statement.TypedStatement.TheBlock.{Row_of-Branch, end_of-Branch, more_of-Branch, Row_of-CaseArm, end_of-CaseArm, more_of-CaseArm}
use Rattle.ob_mean.specs.declared.statement.TypedStatement.TheVariants.{Simple, If', Case', While', Repeat', For'}
use Rattle.ob_mean.specs.declared.module.TypedProcedure.{TypedProcedure}
use Rattle.ob_mean.specs.declared.module.TypedModule.{TypedModule}
use Rattle.ob_mean.specs.RecordTypes.{TypeNames}
use Rattle.ob_mean.specs.WellFormed.{Object, Of, field_in}

-- the shape of each name
abbrev pub Shapes : Type 0
Shapes = TypeName → Shape

-- of what has this type, and of its bases, these are the shapes: the base of a record is its first field
abbrev pub AreShapes : Shapes → TypeNames → Option Object → Type 0
AreShapes shapes [] object = Unit {0}
AreShapes shapes (x ∷ xs) object = (object ≡ Some (Of (shapes x))) × AreShapes shapes xs (field_in object 0)

abbrev pub KindAgrees : Shapes → RecordKind → Type 0
KindAgrees shapes k = AreShapes shapes k.names (Some (Of k.shape))

-- ---- each type in a tree; a test has names alone

abbrev mutual
  pub ExprAgrees : Shapes → TypedExpr → Type 0
  ExprAgrees shapes (Constant v) = Unit {0}
  ExprAgrees shapes (Read d) = PlaceAgrees shapes d
  ExprAgrees shapes InputDone = Unit {0}
  ExprAgrees shapes (Unary' op line h (more_of-TypedExpr a end_of-TypedExpr)) = ExprAgrees shapes a
  ExprAgrees shapes (Chain' h (more_of-TypedExpr a end_of-TypedExpr) k steps) = ExprAgrees shapes a × OperationsAgree shapes steps
  ExprAgrees shapes (Every' k es) = ExprsAgree shapes es
  ExprAgrees shapes (Either' k es) = ExprsAgree shapes es
  ExprAgrees shapes (Texts relation a b) = PlaceAgrees shapes a × PlaceAgrees shapes b
  ExprAgrees shapes (Length d) = PlaceAgrees shapes d
  ExprAgrees shapes (Function' f line k args) = ArgumentsAgree shapes args
  ExprAgrees shapes (Test d type) = PlaceAgrees shapes d

  pub ExprsAgree : Shapes → {k : _} → Row_of-TypedExpr k → Type 0
  ExprsAgree shapes end_of-TypedExpr = Unit {0}
  ExprsAgree shapes (more_of-TypedExpr e rest) = ExprAgrees shapes e × ExprsAgree shapes rest

  pub OperationsAgree : Shapes → {k : _} → Row_of-Operation k → Type 0
  OperationsAgree shapes end_of-Operation = Unit {0}
  OperationsAgree shapes (more_of-Operation op line e rest) = ExprAgrees shapes e × OperationsAgree shapes rest

  pub PlaceAgrees : Shapes → Designator → Type 0
  PlaceAgrees shapes (designator.Whole v) = Unit {0}
  PlaceAgrees shapes (designator.Element' g (more_of-Designator d end_of-Designator) line h (more_of-TypedExpr e end_of-TypedExpr)) =
      PlaceAgrees shapes d × ExprAgrees shapes e
  PlaceAgrees shapes (designator.Field' h (more_of-Designator d end_of-Designator) i) = PlaceAgrees shapes d
  PlaceAgrees shapes (designator.Guarded' h (more_of-Designator d end_of-Designator) line kind levels) = PlaceAgrees shapes d × KindAgrees shapes kind

  pub ArgumentAgrees : Shapes → Argument → Type 0
  ArgumentAgrees shapes (argument.Value e) = ExprAgrees shapes e
  ArgumentAgrees shapes (argument.Place d) = PlaceAgrees shapes d
  ArgumentAgrees shapes (argument.Open d) = PlaceAgrees shapes d
  ArgumentAgrees shapes (argument.Typed d kind levels) = PlaceAgrees shapes d × KindAgrees shapes kind
  ArgumentAgrees shapes (argument.Again d levels) = PlaceAgrees shapes d

  pub ArgumentsAgree : Shapes → {k : _} → Row_of-Argument k → Type 0
  ArgumentsAgree shapes end_of-Argument = Unit {0}
  ArgumentsAgree shapes (more_of-Argument a rest) = ArgumentAgrees shapes a × ArgumentsAgree shapes rest

abbrev pub PassedAgree : Shapes → List Argument → Type 0
PassedAgree shapes [] = Unit {0}
PassedAgree shapes (a ∷ rest) = ArgumentAgrees shapes a × PassedAgree shapes rest

-- ---- statements

abbrev pub InputAgrees : Shapes → InputCall → Type 0
InputAgrees shapes incoming.Open = Unit {0}
InputAgrees shapes (incoming.Read reader d) = PlaceAgrees shapes d

abbrev pub OutputAgrees : Shapes → OutputCall → Type 0
OutputAgrees shapes outgoing.Open = Unit {0}
OutputAgrees shapes (outgoing.Char e) = ExprAgrees shapes e
OutputAgrees shapes (outgoing.String d) = PlaceAgrees shapes d
OutputAgrees shapes (outgoing.Int e width) = ExprAgrees shapes e × ExprAgrees shapes width
OutputAgrees shapes outgoing.Ln = Unit {0}

abbrev pub ActionAgrees : Shapes → Action → Type 0
ActionAgrees shapes (Assign d e) = PlaceAgrees shapes d × ExprAgrees shapes e
ActionAgrees shapes (Copy d e) = PlaceAgrees shapes d × PlaceAgrees shapes e
ActionAgrees shapes (AssignText d line text) = PlaceAgrees shapes d
ActionAgrees shapes (Adjust a d e) = PlaceAgrees shapes d × ExprAgrees shapes e
ActionAgrees shapes (Assert line e) = ExprAgrees shapes e
ActionAgrees shapes (Call f line args) = PassedAgree shapes args
ActionAgrees shapes (Input call) = InputAgrees shapes call
ActionAgrees shapes (Output call) = OutputAgrees shapes call

abbrev pub HeadAgrees : Shapes → ForHead → Type 0
HeadAgrees shapes head = ExprAgrees shapes head.first × ExprAgrees shapes head.last

abbrev mutual
  pub StatAgrees : Shapes → TypedStatement → Type 0
  StatAgrees shapes (Simple action) = ActionAgrees shapes action
  StatAgrees shapes (If' k bs m rest) = BranchesAgree shapes bs × StatsAgree shapes rest
  StatAgrees shapes (Case' line e k arms) = ExprAgrees shapes e × ArmsAgree shapes arms
  StatAgrees shapes (While' k bs) = BranchesAgree shapes bs
  StatAgrees shapes (Repeat' k body e) = StatsAgree shapes body × ExprAgrees shapes e
  StatAgrees shapes (For' head k body) = HeadAgrees shapes head × StatsAgree shapes body

  pub StatsAgree : Shapes → {k : _} → Row_of-TypedStatement k → Type 0
  StatsAgree shapes end_of-TypedStatement = Unit {0}
  StatsAgree shapes (more_of-TypedStatement s rest) = StatAgrees shapes s × StatsAgree shapes rest

  pub BranchesAgree : Shapes → {k : _} → Row_of-Branch k → Type 0
  BranchesAgree shapes end_of-Branch = Unit {0}
  BranchesAgree shapes (more_of-Branch e k body rest) = ExprAgrees shapes e × StatsAgree shapes body × BranchesAgree shapes rest

  pub ArmsAgree : Shapes → {k : _} → Row_of-CaseArm k → Type 0
  ArmsAgree shapes end_of-CaseArm = Unit {0}
  ArmsAgree shapes (more_of-CaseArm labels k body rest) = StatsAgree shapes body × ArmsAgree shapes rest

abbrev pub ListAgrees : Shapes → List TypedStatement → Type 0
ListAgrees shapes [] = Unit {0}
ListAgrees shapes (s ∷ rest) = StatAgrees shapes s × ListAgrees shapes rest

-- ---- modules

abbrev pub ResultAgrees : Shapes → Option TypedExpr → Type 0
ResultAgrees shapes None = Unit {0}
ResultAgrees shapes (Some e) = ExprAgrees shapes e

abbrev pub ProcedureAgrees : Shapes → TypedProcedure → Type 0
ProcedureAgrees shapes f = ListAgrees shapes f.body × ResultAgrees shapes f.result

abbrev pub ProceduresAgree : Shapes → List TypedProcedure → Type 0
ProceduresAgree shapes [] = Unit {0}
ProceduresAgree shapes (f ∷ fs) = ProcedureAgrees shapes f × ProceduresAgree shapes fs

abbrev pub TypesAgree : Shapes → TypedModule → Type 0
TypesAgree shapes m = ProceduresAgree shapes m.procedures × ListAgrees shapes m.body
