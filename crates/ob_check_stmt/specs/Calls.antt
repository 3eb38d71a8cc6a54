-- To be believed.
-- Calls of procedures by statements: a function is called in an expression alone (Wirth, The Programming Language Oberon,
-- Oberon-07).
use Rattle.std.specs.Prelude.{ℕ, List, [], ◌∷◌, Bool, true, false, Option, Some, None, is_none}
use Rattle.ob_check_scope.specs.declared.rule.RuleCode.TheVariants as code
use Rattle.ob_tree.specs.declared.tree.Designator.{Designator, out-Designator}
use Rattle.ob_tree.specs.declared.tree.Expr.{Expr}
use Rattle.ob_types.specs.declared.exports.Formal.{Formal}
use Rattle.ob_types.specs.declared.exports.Signature.{Signature}
use Rattle.ob_mean.specs.declared.expression.Callee.{Callee}
use Rattle.ob_mean.specs.declared.statement.Action.{Action}
use Rattle.ob_mean.specs.declared.statement.Action.TheVariants as action
use Rattle.ob_check_scope.specs.declared.scope.Scope.{Scope}
use Rattle.ob_check_scope.specs.Imports.{Modules}
use Rattle.ob_check_scope.specs.Rule.{Rule, Given, Breaks, Then, Needs}
use Rattle.ob_check_expr.specs.Expressions.{actuals_at}
use Rattle.ob_check_operand.specs.Operands.{Variables}
use Rattle.ob_check_operand.specs.Named.{Callable}
use Rattle.ob_check_operand.specs.Named as called
use Rattle.ob_check_operand.specs.Names.{called_at}
use Rattle.ob_check_stmt.specs.StandardCalls.{in_call, out_call, predeclared_call}

abbrev pub has_none : List Formal → Bool
has_none [] = true
has_none (f ∷ fs) = false

module _ (ms : Modules) (s : Scope) (n : ℕ) where
  -- without parentheses nothing is passed
  unfoldable pub call_with : Callee → List Formal → ℕ → Variables → Option (List Expr) → Rule (Action × Variables)
  call_with to formals line variables None = Needs (has_none formals) code.Parameters (Given (action.Call to line [], variables))
  call_with to formals line variables (Some es) =
      Then (actuals_at ms s n formals variables es) (λ p. Given (action.Call to line p.0, p.1))

  -- a procedure that is no function
  unfoldable pub procedure_call : Signature → Callee → ℕ → Variables → Option (List Expr) → Rule (Action × Variables)
  procedure_call f to line variables actuals = Needs (is_none f.result) code.Parameters (call_with to f.formals line variables actuals)

  -- what a name stands for is called, in this line
  unfoldable pub call_of : Callable → ℕ → Variables → Option (List Expr) → Rule (Action × Variables)
  call_of (called.Procedure f to) line variables actuals = procedure_call f to line variables actuals
  call_of (called.Function f) line variables actuals = Breaks code.Parameters
  call_of (called.Proper p) line variables actuals = predeclared_call ms s n p line variables actuals
  call_of (called.Input i) line variables actuals = in_call ms s n i variables actuals
  call_of (called.Output o) line variables actuals = out_call ms s n o variables actuals

  unfoldable pub call : Variables → Designator → Option (List Expr) → Rule (Action × Variables)
  call variables d actuals = Then (called_at ms s d) (λ c. call_of c (out-Designator d).name.span.line variables actuals)
