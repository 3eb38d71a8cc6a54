-- What the static rules give is well formed.
use Rattle.std.proofs.Common.{List, [], ◌∷◌, Option, Some, None, sym, subst}
use Rattle.ob_mean.specs.declared.expression.TypedExpr.{TypedExpr, Row_of-TypedExpr, end_of-TypedExpr, more_of-TypedExpr}
use Rattle.ob_mean.specs.declared.expression.TypedExpr.TheVariants.{Constant, Read, InputDone, Unary', Chain', Every', Either', Texts, Length, Function', Test}
use Rattle.ob_mean.specs.declared.expression.Designator.{Designator, end_of-Designator, more_of-Designator}
use Rattle.ob_mean.specs.declared.expression.Designator.TheVariants as designator
use Rattle.ob_mean.specs.declared.expression.Argument.{Argument}
use Rattle.ob_mean.specs.declared.expression.Argument.TheVariants as argument
use Rattle.ob_mean.specs.declared.expression.Argument.TheBlock.{Row_of-Argument, end_of-Argument, more_of-Argument, Row_of-Operation, end_of-Operation, more_of-Operation}
use Rattle.ob_mean.specs.declared.face.Face.{Face}
use Rattle.ob_mean.specs.declared.module.Parameter.{Parameter}
use Rattle.ob_mean.specs.declared.module.Parameter.TheVariants as parameter
use Rattle.ob_mean.specs.declared.module.TypedModule.{TypedModule}
use Rattle.ob_mean.specs.declared.module.TypedProcedure.{TypedProcedure}
use Rattle.ob_mean.specs.declared.statement.Action.{Action}
use Rattle.ob_mean.specs.declared.statement.Action.TheVariants.{Assign, Copy, AssignText, Adjust, Assert, Call, Input, Output}
use Rattle.ob_mean.specs.declared.statement.InputCall.{InputCall}
use Rattle.ob_mean.specs.declared.statement.InputCall.TheVariants as incoming
use Rattle.ob_mean.specs.declared.statement.OutputCall.{OutputCall}
use Rattle.ob_mean.specs.declared.statement.OutputCall.TheVariants as outgoing
use Rattle.ob_mean.specs.declared.statement.TypedStatement.{TypedStatement, Row_of-TypedStatement, end_of-TypedStatement, more_of-TypedStatement}
use Rattle.ob_mean.specs.declared.statement.TypedStatement.TheBlock.{Row_of-Branch, end_of-Branch, more_of-Branch, Row_of-CaseArm, end_of-CaseArm, more_of-CaseArm}
use Rattle.ob_mean.specs.declared.statement.TypedStatement.TheVariants.{Simple, If', Case', While', Repeat', For'}
use Rattle.ob_mean.specs.declared.kind.RecordKind.{RecordKind}
use Rattle.ob_mean.specs.WellFormed.{Names, KindFits, IsWellFormed}
use Rattle.ob_mean.specs.WellFormed as formed
use Rattle.ob_check_kinds.proofs.KindFits.{kind_fits}
use Rattle.ob_check_laws.specs.Formed.{IsKind, ExprFits, ExprsFit, OperationsFit, IndexesFit, IsPassed, RowPassed, ListPassed, InputFits, OutputFits, ActionFits, StatFits, StatsFit, BranchesFit, ArmsFit, ListFits, ResultFits, ProceduresFit, IsFormed}

kind_fitting : (k : RecordKind) → IsKind k → KindFits k
kind_fitting k h = subst KindFits (sym h.2) (kind_fits h.0 h.1)

module _ (names : Names) where
  mutual
    expr_fits : (e : TypedExpr) → ExprFits names e → formed.ExprFits names e
    expr_fits (Constant v) h = tt
    expr_fits (Read d) h = (place_fits d h.0, h.1)
    expr_fits InputDone h = tt
    expr_fits (Unary' op line g (more_of-TypedExpr a end_of-TypedExpr)) h = expr_fits a h
    expr_fits (Chain' g (more_of-TypedExpr a end_of-TypedExpr) k steps) h = (expr_fits a h.0, operations_fit steps h.1)
    expr_fits (Every' k es) h = exprs_fit es h
    expr_fits (Either' k es) h = exprs_fit es h
    expr_fits (Texts relation a b) h = (place_fits a h.0, place_fits b h.1, h.2, h.3)
    expr_fits (Length d) h = (place_fits d h.0, h.1)
    expr_fits (Function' f line k args) h = (h.0, h.1, h.2, arguments_fit args (h.0).parameters h.3)
    expr_fits (Test d type) h = (place_fits d h.0, h.1)

    exprs_fit : {k : _} (es : Row_of-TypedExpr k) → ExprsFit names es → formed.ExprsFit names es
    exprs_fit end_of-TypedExpr h = tt
    exprs_fit (more_of-TypedExpr e rest) h = (expr_fits e h.0, exprs_fit rest h.1)

    operations_fit : {k : _} (os : Row_of-Operation k) → OperationsFit names os → formed.OperationsFit names os
    operations_fit end_of-Operation h = tt
    operations_fit (more_of-Operation op line e rest) h = (expr_fits e h.0, operations_fit rest h.1)

    place_fits : (d : Designator) → IndexesFit names d → formed.IndexesFit names d
    place_fits (designator.Whole v) h = tt
    place_fits (designator.Element' g (more_of-Designator d end_of-Designator) line i (more_of-TypedExpr e end_of-TypedExpr)) h =
        (place_fits d h.0, expr_fits e h.1)
    place_fits (designator.Field' g (more_of-Designator d end_of-Designator) i) h = place_fits d h
    place_fits (designator.Guarded' g (more_of-Designator d end_of-Designator) line kind levels) h = (place_fits d h.0, h.1, kind_fitting kind h.2, h.3)

    argument_fits : (a : Argument) (p : Parameter) → IsPassed names a p → formed.IsPassed names a p
    argument_fits (argument.Value e) parameter.Value h = expr_fits e h
    argument_fits (argument.Value e) (parameter.Place shape) h = absurd h
    argument_fits (argument.Value e) (parameter.Open shape) h = absurd h
    argument_fits (argument.Value e) (parameter.Extended shape) h = absurd h
    argument_fits (argument.Place d) parameter.Value h = absurd h
    argument_fits (argument.Place d) (parameter.Place shape) h = (place_fits d h.0, h.1)
    argument_fits (argument.Place d) (parameter.Open shape) h = absurd h
    argument_fits (argument.Place d) (parameter.Extended shape) h = absurd h
    argument_fits (argument.Open d) parameter.Value h = absurd h
    argument_fits (argument.Open d) (parameter.Place shape) h = absurd h
    argument_fits (argument.Open d) (parameter.Open shape) h = (place_fits d h.0, h.1)
    argument_fits (argument.Open d) (parameter.Extended shape) h = absurd h
    argument_fits (argument.Typed d kind levels) parameter.Value h = absurd h
    argument_fits (argument.Typed d kind levels) (parameter.Place shape) h = absurd h
    argument_fits (argument.Typed d kind levels) (parameter.Open shape) h = absurd h
    argument_fits (argument.Typed d kind levels) (parameter.Extended shape) h = (place_fits d h.0, h.1, kind_fitting kind h.2, h.3, h.4)
    argument_fits (argument.Again d levels) parameter.Value h = absurd h
    argument_fits (argument.Again d levels) (parameter.Place shape) h = absurd h
    argument_fits (argument.Again d levels) (parameter.Open shape) h = absurd h
    argument_fits (argument.Again d levels) (parameter.Extended shape) h = (place_fits d h.0, h.1, h.2)

    arguments_fit : {k : _} (args : Row_of-Argument k) (ps : List Parameter) → RowPassed names args ps → formed.RowPassed names args ps
    arguments_fit end_of-Argument [] h = tt
    arguments_fit end_of-Argument (p ∷ ps) h = absurd h
    arguments_fit (more_of-Argument a rest) [] h = absurd h
    arguments_fit (more_of-Argument a rest) (p ∷ ps) h = (argument_fits a p h.0, arguments_fit rest ps h.1)

  passed_fit : (args : List Argument) (ps : List Parameter) → ListPassed names args ps → formed.ListPassed names args ps
  passed_fit [] [] h = tt
  passed_fit [] (p ∷ ps) h = absurd h
  passed_fit (a ∷ rest) [] h = absurd h
  passed_fit (a ∷ rest) (p ∷ ps) h = (argument_fits a p h.0, passed_fit rest ps h.1)

  -- ---- statements

  input_fits : (call : InputCall) → InputFits names call → formed.InputFits names call
  input_fits incoming.Open h = tt
  input_fits (incoming.Read reader d) h = (place_fits d h.0, h.1)

  output_fits : (call : OutputCall) → OutputFits names call → formed.OutputFits names call
  output_fits outgoing.Open h = tt
  output_fits (outgoing.Char e) h = expr_fits e h
  output_fits (outgoing.String d) h = (place_fits d h.0, h.1)
  output_fits (outgoing.Int e width) h = (expr_fits e h.0, expr_fits width h.1)
  output_fits outgoing.Ln h = tt

  action_fits : (a : Action) → ActionFits names a → formed.ActionFits names a
  action_fits (Assign d e) h = (place_fits d h.0, h.1, expr_fits e h.2)
  action_fits (Copy d e) h = (place_fits d h.0, place_fits e h.1, h.2)
  action_fits (AssignText d line text) h = (place_fits d h.0, h.1)
  action_fits (Adjust a d e) h = (place_fits d h.0, h.1, expr_fits e h.2)
  action_fits (Assert line e) h = expr_fits e h
  action_fits (Call f line args) h = (h.0, h.1, h.2, passed_fit args (h.0).parameters h.3)
  action_fits (Input call) h = input_fits call h
  action_fits (Output call) h = output_fits call h

  mutual
    stat_fits : (s : TypedStatement) → StatFits names s → formed.StatFits names s
    stat_fits (Simple action) h = action_fits action h
    stat_fits (If' k bs m rest) h = (branches_fit bs h.0, stats_fit rest h.1)
    stat_fits (Case' line e k arms) h = (expr_fits e h.0, arms_fit arms h.1)
    stat_fits (While' k bs) h = branches_fit bs h
    stat_fits (Repeat' k body e) h = (stats_fit body h.0, expr_fits e h.1)
    stat_fits (For' head k body) h = (((h.0).0, expr_fits head.first (h.0).1, expr_fits head.last (h.0).2, (h.0).3), stats_fit body h.1)

    stats_fit : {k : _} (row : Row_of-TypedStatement k) → StatsFit names row → formed.StatsFit names row
    stats_fit end_of-TypedStatement h = tt
    stats_fit (more_of-TypedStatement s rest) h = (stat_fits s h.0, stats_fit rest h.1)

    branches_fit : {k : _} (row : Row_of-Branch k) → BranchesFit names row → formed.BranchesFit names row
    branches_fit end_of-Branch h = tt
    branches_fit (more_of-Branch e k body rest) h = (expr_fits e h.0, stats_fit body h.1, branches_fit rest h.2)

    arms_fit : {k : _} (row : Row_of-CaseArm k) → ArmsFit names row → formed.ArmsFit names row
    arms_fit end_of-CaseArm h = tt
    arms_fit (more_of-CaseArm labels k body rest) h = (stats_fit body h.0, arms_fit rest h.1)

  pub list_fits : (body : List TypedStatement) → ListFits names body → formed.ListFits names body
  list_fits [] h = tt
  list_fits (s ∷ rest) h = (stat_fits s h.0, list_fits rest h.1)

  pub result_fits : (result : Option TypedExpr) → ResultFits names result → formed.ResultFits names result
  result_fits None h = tt
  result_fits (Some e) h = expr_fits e h

-- ---- modules

procedures_fit : (faces : List Face) (m : TypedModule) (fs : List TypedProcedure) → ProceduresFit faces m fs → formed.ProceduresFit faces m fs
procedures_fit faces m [] h = tt
procedures_fit faces m (f ∷ fs) h = (
  (list_fits (formed.names_of faces m f) f.body (h.0).0, result_fits (formed.names_of faces m f) f.result (h.0).1, (h.0).2),
  procedures_fit faces m fs h.1,
)

pub well_formed : (faces : List Face) (m : TypedModule) → IsFormed faces m → IsWellFormed faces m
well_formed faces m h = record {
  known = h.known;
  variables = h.variables;
  exported = h.exported;
  procedures = procedures_fit faces m m.procedures h.procedures;
  body = list_fits (formed.names_in faces m) m.body h.body;
}
