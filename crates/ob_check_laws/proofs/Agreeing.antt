-- The record types in what the static rules give agree: the name of each is that of one shape.
use Rattle.std.proofs.Common.{◌≡◌, true, List, [], ◌∷◌, Option, Some, None, refl, sym, ap, subst}
use Rattle.ob_mean.specs.declared.expression.TypedExpr.{TypedExpr, Row_of-TypedExpr, end_of-TypedExpr, more_of-TypedExpr}
use Rattle.ob_mean.specs.declared.expression.TypedExpr.TheVariants.{Constant, Read, InputDone, Unary', Chain', Every', Either', Texts, Length, Function', Test}
use Rattle.ob_mean.specs.declared.expression.Designator.{Designator, end_of-Designator, more_of-Designator}
use Rattle.ob_mean.specs.declared.expression.Designator.TheVariants as designator
use Rattle.ob_mean.specs.declared.expression.Argument.{Argument}
use Rattle.ob_mean.specs.declared.expression.Argument.TheVariants as argument
use Rattle.ob_mean.specs.declared.expression.Argument.TheBlock.{Row_of-Argument, end_of-Argument, more_of-Argument, Row_of-Operation, end_of-Operation, more_of-Operation}
use Rattle.ob_mean.specs.declared.face.Face.{Face}
use Rattle.ob_mean.specs.declared.module.Parameter.{Parameter}
use Rattle.ob_mean.specs.declared.module.Parameter.TheVariants as parameter
use Rattle.ob_mean.specs.declared.module.TypedModule.{TypedModule}
use Rattle.ob_mean.specs.declared.module.TypedProcedure.{TypedProcedure}
use Rattle.ob_mean.specs.declared.statement.Action.{Action}
use Rattle.ob_mean.specs.declared.statement.Action.TheVariants.{Assign, Copy, AssignText, Adjust, Assert, Call, Input, Output}
use Rattle.ob_mean.specs.declared.statement.InputCall.{InputCall}
use Rattle.ob_mean.specs.declared.statement.InputCall.TheVariants as incoming
use Rattle.ob_mean.specs.declared.statement.OutputCall.{OutputCall}
use Rattle.ob_mean.specs.declared.statement.OutputCall.TheVariants as outgoing
use Rattle.ob_mean.specs.declared.statement.TypedStatement.{TypedStatement, Row_of-TypedStatement, end_of-TypedStatement, more_of-TypedStatement}
use Rattle.ob_mean.specs.declared.statement.TypedStatement.TheBlock.{Row_of-Branch, end_of-Branch, more_of-Branch, Row_of-CaseArm, end_of-CaseArm, more_of-CaseArm}
use Rattle.ob_mean.specs.declared.statement.TypedStatement.TheVariants.{Simple, If', Case', While', Repeat', For'}
use Rattle.ob_gen.specs.TypesAgree.{Shapes, AreShapes, KindAgrees, ExprAgrees, ExprsAgree, OperationsAgree, PlaceAgrees, ArgumentAgrees, ArgumentsAgree, PassedAgree, InputAgrees, OutputAgrees, ActionAgrees, StatAgrees, StatsAgree, BranchesAgree, ArmsAgree, ListAgrees, ResultAgrees, ProceduresAgree, TypesAgree}
use Rattle.ob_types.specs.declared.structure.ObType.{ObType}
use Rattle.ob_types.specs.Types.{base_of}
use Rattle.ob_mean.specs.declared.kind.RecordKind.{RecordKind}
use Rattle.ob_mean.specs.WellFormed.{Names, Of, field_in}
use Rattle.ob_mean.specs.WellFormed as module_names
use Rattle.ob_types.specs.Declarable.{is_plain}
use Rattle.ob_check_kinds.specs.Kinds.{names_of}
use Rattle.ob_check_kinds.specs.Shapes.{shape_of}
use Rattle.ob_check_kinds.proofs.KindForms.{base_names, names_step}
use Rattle.ob_check_kinds.proofs.KindFits.{along, base_shape, plain_base, declarable_plain}
use Rattle.ob_check_laws.specs.Agreeing.{SaysTypes}
use Rattle.ob_check_laws.specs.Formed.{IsKind, ExprFits, ExprsFit, OperationsFit, IndexesFit, IsPassed, RowPassed, ListPassed, InputFits, OutputFits, ActionFits, StatFits, StatsFit, BranchesFit, ArmsFit, ListFits, ResultFits, ProceduresFit, IsFormed}

-- ---- the names of a type

abbrev Named : Shapes → ObType → Type 0
Named shapes t = is_plain t ≡ true → AreShapes shapes (names_of t) (Some (Of (shape_of t)))

base_agrees : (shapes : Shapes) (t : ObType) → ((b : ObType) → base_of t ≡ Some b → Named shapes b) → (o : Option ObType) → base_of t ≡ o → is_plain t ≡ true → AreShapes shapes (base_names o) (field_in (Some (Of (shape_of t))) 0)
base_agrees shapes t more None e h = tt
base_agrees shapes t more (Some b) e h = subst (AreShapes shapes (names_of b)) (sym (base_shape t b e)) (more b e (plain_base t b e h).0)

named_agree : (shapes : Shapes) → SaysTypes shapes → (t : ObType) → Named shapes t
named_agree shapes says = along (Named shapes) (λ t more h.
    subst (λ ns. AreShapes shapes ns (Some (Of (shape_of t)))) (sym (names_step t)) (ap (λ s. Some (Of s)) (sym (says t h)), base_agrees shapes t more (base_of t) refl h))

kind_agrees : (shapes : Shapes) → SaysTypes shapes → (k : RecordKind) → IsKind k → KindAgrees shapes k
kind_agrees shapes says k h = subst (KindAgrees shapes) (sym h.2) (named_agree shapes says h.0 (declarable_plain h.0 h.1))

-- ---- expressions

module _ (shapes : Shapes) (names : Names) (says : SaysTypes shapes) where
  mutual
    expr_agrees : (e : TypedExpr) → ExprFits names e → ExprAgrees shapes e
    expr_agrees (Constant v) h = tt
    expr_agrees (Read d) h = place_agrees d h.0
    expr_agrees InputDone h = tt
    expr_agrees (Unary' op line g (more_of-TypedExpr a end_of-TypedExpr)) h = expr_agrees a h
    expr_agrees (Chain' g (more_of-TypedExpr a end_of-TypedExpr) k steps) h = (expr_agrees a h.0, operations_agree steps h.1)
    expr_agrees (Every' k es) h = exprs_agree es h
    expr_agrees (Either' k es) h = exprs_agree es h
    expr_agrees (Texts relation a b) h = (place_agrees a h.0, place_agrees b h.1)
    expr_agrees (Length d) h = place_agrees d h.0
    expr_agrees (Function' f line k args) h = arguments_agree args (h.0).parameters h.3
    expr_agrees (Test d type) h = place_agrees d h.0

    exprs_agree : {k : _} (es : Row_of-TypedExpr k) → ExprsFit names es → ExprsAgree shapes es
    exprs_agree end_of-TypedExpr h = tt
    exprs_agree (more_of-TypedExpr e rest) h = (expr_agrees e h.0, exprs_agree rest h.1)

    operations_agree : {k : _} (os : Row_of-Operation k) → OperationsFit names os → OperationsAgree shapes os
    operations_agree end_of-Operation h = tt
    operations_agree (more_of-Operation op line e rest) h = (expr_agrees e h.0, operations_agree rest h.1)

    place_agrees : (d : Designator) → IndexesFit names d → PlaceAgrees shapes d
    place_agrees (designator.Whole v) h = tt
    place_agrees (designator.Element' g (more_of-Designator d end_of-Designator) line i (more_of-TypedExpr e end_of-TypedExpr)) h =
        (place_agrees d h.0, expr_agrees e h.1)
    place_agrees (designator.Field' g (more_of-Designator d end_of-Designator) i) h = place_agrees d h
    place_agrees (designator.Guarded' g (more_of-Designator d end_of-Designator) line kind levels) h = (place_agrees d h.0, kind_agrees shapes says kind h.2)

    argument_agrees : (a : Argument) (p : Parameter) → IsPassed names a p → ArgumentAgrees shapes a
    argument_agrees (argument.Value e) parameter.Value h = expr_agrees e h
    argument_agrees (argument.Value e) (parameter.Place shape) h = absurd h
    argument_agrees (argument.Value e) (parameter.Open shape) h = absurd h
    argument_agrees (argument.Value e) (parameter.Extended shape) h = absurd h
    argument_agrees (argument.Place d) parameter.Value h = absurd h
    argument_agrees (argument.Place d) (parameter.Place shape) h = place_agrees d h.0
    argument_agrees (argument.Place d) (parameter.Open shape) h = absurd h
    argument_agrees (argument.Place d) (parameter.Extended shape) h = absurd h
    argument_agrees (argument.Open d) parameter.Value h = absurd h
    argument_agrees (argument.Open d) (parameter.Place shape) h = absurd h
    argument_agrees (argument.Open d) (parameter.Open shape) h = place_agrees d h.0
    argument_agrees (argument.Open d) (parameter.Extended shape) h = absurd h
    argument_agrees (argument.Typed d kind levels) parameter.Value h = absurd h
    argument_agrees (argument.Typed d kind levels) (parameter.Place shape) h = absurd h
    argument_agrees (argument.Typed d kind levels) (parameter.Open shape) h = absurd h
    argument_agrees (argument.Typed d kind levels) (parameter.Extended shape) h = (place_agrees d h.0, kind_agrees shapes says kind h.2)
    argument_agrees (argument.Again d levels) parameter.Value h = absurd h
    argument_agrees (argument.Again d levels) (parameter.Place shape) h = absurd h
    argument_agrees (argument.Again d levels) (parameter.Open shape) h = absurd h
    argument_agrees (argument.Again d levels) (parameter.Extended shape) h = place_agrees d h.0

    arguments_agree : {k : _} (args : Row_of-Argument k) (ps : List Parameter) → RowPassed names args ps → ArgumentsAgree shapes args
    arguments_agree end_of-Argument ps h = tt
    arguments_agree (more_of-Argument a rest) [] h = absurd h
    arguments_agree (more_of-Argument a rest) (p ∷ ps) h = (argument_agrees a p h.0, arguments_agree rest ps h.1)

  passed_agree : (args : List Argument) (ps : List Parameter) → ListPassed names args ps → PassedAgree shapes args
  passed_agree [] ps h = tt
  passed_agree (a ∷ rest) [] h = absurd h
  passed_agree (a ∷ rest) (p ∷ ps) h = (argument_agrees a p h.0, passed_agree rest ps h.1)

  -- ---- statements

  input_agrees : (call : InputCall) → InputFits names call → InputAgrees shapes call
  input_agrees incoming.Open h = tt
  input_agrees (incoming.Read reader d) h = place_agrees d h.0

  output_agrees : (call : OutputCall) → OutputFits names call → OutputAgrees shapes call
  output_agrees outgoing.Open h = tt
  output_agrees (outgoing.Char e) h = expr_agrees e h
  output_agrees (outgoing.String d) h = place_agrees d h.0
  output_agrees (outgoing.Int e width) h = (expr_agrees e h.0, expr_agrees width h.1)
  output_agrees outgoing.Ln h = tt

  action_agrees : (a : Action) → ActionFits names a → ActionAgrees shapes a
  action_agrees (Assign d e) h = (place_agrees d h.0, expr_agrees e h.2)
  action_agrees (Copy d e) h = (place_agrees d h.0, place_agrees e h.1)
  action_agrees (AssignText d line text) h = place_agrees d h.0
  action_agrees (Adjust a d e) h = (place_agrees d h.0, expr_agrees e h.2)
  action_agrees (Assert line e) h = expr_agrees e h
  action_agrees (Call f line args) h = passed_agree args (h.0).parameters h.3
  action_agrees (Input call) h = input_agrees call h
  action_agrees (Output call) h = output_agrees call h

  mutual
    stat_agrees : (s : TypedStatement) → StatFits names s → StatAgrees shapes s
    stat_agrees (Simple action) h = action_agrees action h
    stat_agrees (If' k bs m rest) h = (branches_agree bs h.0, stats_agree rest h.1)
    stat_agrees (Case' line e k arms) h = (expr_agrees e h.0, arms_agree arms h.1)
    stat_agrees (While' k bs) h = branches_agree bs h
    stat_agrees (Repeat' k body e) h = (stats_agree body h.0, expr_agrees e h.1)
    stat_agrees (For' head k body) h = ((expr_agrees head.first (h.0).1, expr_agrees head.last (h.0).2), stats_agree body h.1)

    stats_agree : {k : _} (row : Row_of-TypedStatement k) → StatsFit names row → StatsAgree shapes row
    stats_agree end_of-TypedStatement h = tt
    stats_agree (more_of-TypedStatement s rest) h = (stat_agrees s h.0, stats_agree rest h.1)

    branches_agree : {k : _} (row : Row_of-Branch k) → BranchesFit names row → BranchesAgree shapes row
    branches_agree end_of-Branch h = tt
    branches_agree (more_of-Branch e k body rest) h = (expr_agrees e h.0, stats_agree body h.1, branches_agree rest h.2)

    arms_agree : {k : _} (row : Row_of-CaseArm k) → ArmsFit names row → ArmsAgree shapes row
    arms_agree end_of-CaseArm h = tt
    arms_agree (more_of-CaseArm labels k body rest) h = (stats_agree body h.0, arms_agree rest h.1)

  pub list_agrees : (body : List TypedStatement) → ListFits names body → ListAgrees shapes body
  list_agrees [] h = tt
  list_agrees (s ∷ rest) h = (stat_agrees s h.0, list_agrees rest h.1)

  pub result_agrees : (result : Option TypedExpr) → ResultFits names result → ResultAgrees shapes result
  result_agrees None h = tt
  result_agrees (Some e) h = expr_agrees e h

-- ---- modules

procedures_agree : (shapes : Shapes) → SaysTypes shapes → (faces : List Face) (m : TypedModule) (fs : List TypedProcedure) → ProceduresFit faces m fs → ProceduresAgree shapes fs
procedures_agree shapes says faces m [] h = tt
procedures_agree shapes says faces m (f ∷ fs) h = (
  (list_agrees shapes (module_names.names_of faces m f) says f.body (h.0).0, result_agrees shapes (module_names.names_of faces m f) says f.result (h.0).1),
  procedures_agree shapes says faces m fs h.1,
)

pub types_agree : (shapes : Shapes) → SaysTypes shapes → (faces : List Face) (m : TypedModule) → IsFormed faces m → TypesAgree shapes m
types_agree shapes says faces m formed =
    (procedures_agree shapes says faces m m.procedures formed.procedures, list_agrees shapes (module_names.names_in faces m) says m.body formed.body)
