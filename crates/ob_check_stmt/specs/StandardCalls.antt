-- To be believed.
-- Calls of the modules In and Out (after the Oakwood Guidelines), and of the procedures that are declared before any module
-- (Wirth, The Programming Language Oberon, Oberon-07).
use Rattle.std.specs.Prelude.{ℕ, zero, suc, pos, List, [], ◌∷◌, Option, Some, None}
use Rattle.ob_check_scope.specs.declared.rule.RuleCode.TheVariants as code
use Rattle.ob_tree.specs.declared.tree.Expr.{Expr}
use Rattle.ob_types.specs.declared.exports.Formal.{Formal}
use Rattle.ob_types.specs.declared.exports.FormalKind.TheVariants as formal
use Rattle.ob_types.specs.declared.structure.Basic.{Basic}
use Rattle.ob_types.specs.declared.structure.Basic.TheVariants as basic
use Rattle.ob_types.specs.declared.structure.ObType.TheVariants.{Basic as OfBasic, Open}
use Rattle.ob_mean.specs.declared.expression.Argument.{Argument}
use Rattle.ob_mean.specs.declared.expression.Argument.TheVariants as argument
use Rattle.ob_mean.specs.declared.expression.Designator.{Designator}
use Rattle.ob_mean.specs.declared.expression.TypedExpr.{TypedExpr}
use Rattle.ob_mean.specs.declared.expression.TypedExpr.TheVariants as typed
use Rattle.ob_mean.specs.declared.statement.Action.{Action}
use Rattle.ob_mean.specs.declared.statement.Action.TheVariants as action
use Rattle.ob_mean.specs.declared.statement.Adjustment.{Adjustment}
use Rattle.ob_mean.specs.declared.statement.Adjustment.TheVariants as adjustment
use Rattle.ob_mean.specs.declared.statement.InputCall.TheVariants as input
use Rattle.ob_mean.specs.declared.statement.OutputCall.TheVariants as output
use Rattle.ob_mean.specs.declared.statement.Reader.{Reader}
use Rattle.ob_mean.specs.declared.statement.Reader.TheVariants as reader
use Rattle.ob_check_scope.specs.Imports.{Modules}
use Rattle.ob_check_scope.specs.Rule.{Rule, Given, Breaks, Then}
use Rattle.ob_check_scope.specs.declared.scope.Scope.{Scope}
use Rattle.ob_check_scope.specs.declared.predeclared.InputName.{InputName}
use Rattle.ob_check_scope.specs.declared.predeclared.InputName.TheVariants as in_name
use Rattle.ob_check_scope.specs.declared.predeclared.OutputName.{OutputName}
use Rattle.ob_check_scope.specs.declared.predeclared.OutputName.TheVariants as out_name
use Rattle.ob_check_scope.specs.declared.predeclared.ProperProcedure.{ProperProcedure}
use Rattle.ob_check_scope.specs.declared.predeclared.ProperProcedure.TheVariants as procedure
use Rattle.ob_check_expr.specs.Expressions.{passed_at, number_at, truth_at}
use Rattle.ob_check_operand.specs.Operands.{Variables}

-- ---- formal parameters of standard procedures

abbrev pub value_formal : Basic → Formal
value_formal b = record { kind = formal.Value; of = OfBasic b }

abbrev pub variable_formal : Basic → Formal
variable_formal b = record { kind = formal.Variable; of = OfBasic b }

-- VAR s: ARRAY OF CHAR
abbrev pub text_variable : Formal
text_variable = record { kind = formal.Variable; of = Open (OfBasic basic.Char) }

-- s: ARRAY OF CHAR
abbrev pub text_value : Formal
text_value = record { kind = formal.Value; of = Open (OfBasic basic.Char) }

-- what a reader sets
abbrev pub reader_formal : Reader → Formal
reader_formal reader.Char = variable_formal basic.Char
reader_formal reader.Int = variable_formal basic.Integer
reader_formal reader.String = text_variable
reader_formal reader.Name = text_variable

-- the place that is passed to a VAR or structured parameter
unfoldable pub place_passed : Argument → Rule Designator
place_passed (argument.Place d) = Given d
place_passed (argument.Open d) = Given d
place_passed a = Breaks code.Parameters

-- the value that is passed to a scalar value parameter
unfoldable pub value_passed : Argument → Rule TypedExpr
value_passed (argument.Value e) = Given e
value_passed a = Breaks code.Parameters

-- what is done, where no actual parameter is left
unfoldable pub none_left : Action → Variables → List Expr → Rule (Action × Variables)
none_left a variables [] = Given (a, variables)
none_left a variables (e ∷ es) = Breaks code.Parameters

-- no parameters, in parentheses or without
unfoldable pub without_actuals : Action → Variables → Option (List Expr) → Rule (Action × Variables)
without_actuals a variables None = Given (a, variables)
without_actuals a variables (Some es) = none_left a variables es

-- what stands in parentheses, which is one construct more
unfoldable pub number_inside : Modules → Scope → ℕ → Variables → Expr → Rule (TypedExpr × Variables)
number_inside ms s zero variables e = Breaks code.Size
number_inside ms s (suc n) variables e = number_at ms s n variables e

unfoldable pub truth_inside : Modules → Scope → ℕ → Variables → Expr → Rule (TypedExpr × Variables)
truth_inside ms s zero variables e = Breaks code.Size
truth_inside ms s (suc n) variables e = truth_at ms s n variables e

-- actual parameters are judged from left to right, and their number after them
module _ (ms : Modules) (s : Scope) (n : ℕ) where
  -- an actual parameter that is a place, and one that is a value
  unfoldable pub place_at : Variables → Formal → Expr → Rule (Designator × Variables)
  place_at variables f e = Then (passed_at ms s n f variables e) (λ p. Then (place_passed p.0) (λ d. Given (d, p.1)))

  unfoldable pub scalar_at : Variables → Basic → Expr → Rule (TypedExpr × Variables)
  scalar_at variables b e = Then (passed_at ms s n (value_formal b) variables e) (λ p. Then (value_passed p.0) (λ x. Given (x, p.1)))

  -- ---- In

  unfoldable pub read_call : Reader → Variables → Option (List Expr) → Rule (Action × Variables)
  read_call r variables (Some (e ∷ es)) =
      Then (place_at variables (reader_formal r) e) (λ p. none_left (action.Input (input.Read r p.0)) p.1 es)
  read_call r variables actuals = Breaks code.Parameters

  unfoldable pub in_call : InputName → Variables → Option (List Expr) → Rule (Action × Variables)
  in_call in_name.Open variables actuals = without_actuals (action.Input input.Open) variables actuals
  in_call in_name.Char variables actuals = read_call reader.Char variables actuals
  in_call in_name.Int variables actuals = read_call reader.Int variables actuals
  in_call in_name.String variables actuals = read_call reader.String variables actuals
  in_call in_name.Name variables actuals = read_call reader.Name variables actuals
  in_call in_name.Done variables actuals = Breaks code.Types
  in_call in_name.Unknown variables actuals = Breaks code.NotExported

  -- ---- Out

  unfoldable pub out_char : Variables → Option (List Expr) → Rule (Action × Variables)
  out_char variables (Some (e ∷ es)) =
      Then (scalar_at variables basic.Char e) (λ p. none_left (action.Output (output.Char p.0)) p.1 es)
  out_char variables actuals = Breaks code.Parameters

  unfoldable pub out_string : Variables → Option (List Expr) → Rule (Action × Variables)
  out_string variables (Some (e ∷ es)) =
      Then (place_at variables text_value e) (λ p. none_left (action.Output (output.String p.0)) p.1 es)
  out_string variables actuals = Breaks code.Parameters

  -- a number and a width
  unfoldable pub out_width : TypedExpr → Variables → List Expr → Rule (Action × Variables)
  out_width x variables [] = Breaks code.Parameters
  out_width x variables (width ∷ es) =
      Then (scalar_at variables basic.Integer width) (λ q. none_left (action.Output (output.Int x q.0)) q.1 es)

  unfoldable pub out_int : Variables → Option (List Expr) → Rule (Action × Variables)
  out_int variables (Some (e ∷ es)) = Then (scalar_at variables basic.Integer e) (λ p. out_width p.0 p.1 es)
  out_int variables actuals = Breaks code.Parameters

  unfoldable pub out_call : OutputName → Variables → Option (List Expr) → Rule (Action × Variables)
  out_call out_name.Open variables actuals = without_actuals (action.Output output.Open) variables actuals
  out_call out_name.Char variables actuals = out_char variables actuals
  out_call out_name.String variables actuals = out_string variables actuals
  out_call out_name.Int variables actuals = out_int variables actuals
  out_call out_name.Ln variables actuals = without_actuals (action.Output output.Ln) variables actuals
  out_call out_name.Unknown variables actuals = Breaks code.NotExported

  -- ---- INC, DEC and ASSERT

  -- an INTEGER variable, and by how much it changes: by 1 where nothing is said
  unfoldable pub adjusted_by : Adjustment → Designator → Variables → List Expr → Rule (Action × Variables)
  adjusted_by a d variables [] = Given (action.Adjust a d (typed.Constant (pos 1)), variables)
  adjusted_by a d variables (e ∷ es) =
      Then (number_inside ms s n variables e) (λ q. none_left (action.Adjust a d q.0) q.1 es)

  unfoldable pub adjusted : Adjustment → Variables → Option (List Expr) → Rule (Action × Variables)
  adjusted a variables (Some (v ∷ es)) =
      Then (place_at variables (variable_formal basic.Integer) v) (λ p. adjusted_by a p.0 p.1 es)
  adjusted a variables actuals = Breaks code.Parameters

  unfoldable pub asserted : ℕ → Variables → Option (List Expr) → Rule (Action × Variables)
  asserted line variables (Some (e ∷ es)) =
      Then (truth_inside ms s n variables e) (λ p. none_left (action.Assert line p.0) p.1 es)
  asserted line variables actuals = Breaks code.Parameters

  unfoldable pub predeclared_call : ProperProcedure → ℕ → Variables → Option (List Expr) → Rule (Action × Variables)
  predeclared_call procedure.Inc line variables actuals = adjusted adjustment.Increase variables actuals
  predeclared_call procedure.Dec line variables actuals = adjusted adjustment.Decrease variables actuals
  predeclared_call procedure.Assert line variables actuals = asserted line variables actuals
