-- To be believed.
-- Signs, sums and products (Wirth, The Programming Language Oberon, Oberon-07). Operands that operators of one kind join
-- stand in one list: a tree is no deeper for a longer sum.
use Rattle.std.specs.Prelude.{ℕ, [], ◌∷◌, ◌++◌, Bool, true, false, Option, Some, None, is_some}
use Rattle.ob_check_scope.specs.declared.rule.RuleCode.TheVariants as code
use Rattle.ob_scan.specs.declared.token.Span.{Span}
use Rattle.ob_tree.specs.declared.tree.Sign.{Sign}
use Rattle.ob_tree.specs.declared.tree.Sign.TheVariants as sign
use Rattle.ob_tree.specs.declared.tree.AddOperator.{AddOperator}
use Rattle.ob_tree.specs.declared.tree.AddOperator.TheVariants as add
use Rattle.ob_tree.specs.declared.tree.MulOperator.{MulOperator}
use Rattle.ob_tree.specs.declared.tree.MulOperator.TheVariants as mul
use Rattle.ob_types.specs.declared.structure.Basic.TheVariants as basic
use Rattle.ob_mean.specs.declared.expression.Operation.{Operation}
use Rattle.ob_mean.specs.declared.expression.TypedExpr.{TypedExpr}
use Rattle.ob_mean.specs.declared.expression.TypedExpr.TheVariants as typed
use Rattle.ob_mean.specs.declared.operator.Operator.{Operator}
use Rattle.ob_mean.specs.declared.operator.Operator.TheVariants as operator
use Rattle.ob_mean.specs.declared.operator.UnaryOperator.TheVariants as one
use Rattle.ob_check_scope.specs.Rule.{Rule, Given, Breaks, Then, there}
use Rattle.ob_check_operand.specs.declared.operand.Operand.{Operand}
use Rattle.ob_check_operand.specs.declared.operand.Operand.TheVariants as operand
use Rattle.ob_check_operand.specs.declared.joining.Joined.{Joined}
use Rattle.ob_check_operand.specs.declared.joining.Joined.TheVariants as joined
use Rattle.ob_check_operand.specs.declared.joining.Joining.{Joining}
use Rattle.ob_check_operand.specs.declared.joining.Joining.TheVariants as joining
use Rattle.ob_check_operand.specs.Operands.{number_of, truth_of}

-- what an operator joins
abbrev pub add_joining : AddOperator → Joining
add_joining add.Plus = joining.Numbers operator.Plus
add_joining add.Minus = joining.Numbers operator.Minus
add_joining add.Or = joining.Truths

abbrev pub mul_joining : MulOperator → Joining
mul_joining mul.Times = joining.Numbers operator.Times
mul_joining mul.Div = joining.Numbers operator.Quotient
mul_joining mul.Mod = joining.Numbers operator.Remainder
mul_joining mul.And = joining.Truths

-- an operator, the line that its trap names, and its second operand
abbrev pub operation : Operator → ℕ → TypedExpr → Operation
operation op line y = record { operator = op; line = line; operand = y }

-- whether what is joined so far may stand before an operator
abbrev pub may_join : Joining → Joined → Bool
may_join (joining.Numbers op) (joined.One v) = is_some (number_of v)
may_join (joining.Numbers op) (joined.Numbers x steps) = true
may_join (joining.Numbers op) (joined.Truths xs) = false
may_join joining.Truths (joined.One v) = is_some (truth_of v)
may_join joining.Truths (joined.Numbers x steps) = false
may_join joining.Truths (joined.Truths xs) = true

-- one number more
unfoldable pub with_number : Operator → ℕ → Joined → TypedExpr → Rule Joined
with_number op line (joined.One v) y =
    Then (there (number_of v) code.Types) (λ x. Given (joined.Numbers x (operation op line y ∷ [])))
with_number op line (joined.Numbers x steps) y = Given (joined.Numbers x (steps ++ operation op line y ∷ []))
with_number op line (joined.Truths xs) y = Breaks code.Types

-- one truth value more
unfoldable pub with_truth : Joined → TypedExpr → Rule Joined
with_truth (joined.One v) y = Then (there (truth_of v) code.Types) (λ x. Given (joined.Truths (x ∷ y ∷ [])))
with_truth (joined.Numbers x steps) y = Breaks code.Types
with_truth (joined.Truths xs) y = Given (joined.Truths (xs ++ y ∷ []))

-- one operand more: arithmetic is on numbers, `&` and OR on truth values
unfoldable pub with_operand : Joining → ℕ → Joined → Operand → Rule Joined
with_operand (joining.Numbers op) line v w = Then (there (number_of w) code.Types) (λ y. with_number op line v y)
with_operand joining.Truths line v w = Then (there (truth_of w) code.Types) (λ y. with_truth v y)

-- what is joined is one operand: arithmetic gives an INTEGER
abbrev pub sum_of : Joined → Operand
sum_of (joined.One v) = v
sum_of (joined.Numbers x steps) = operand.Value basic.Integer (typed.Chain x steps)
sum_of (joined.Truths xs) = operand.Value basic.Boolean (typed.Either xs)

abbrev pub product_of : Joined → Operand
product_of (joined.One v) = v
product_of (joined.Numbers x steps) = operand.Value basic.Integer (typed.Chain x steps)
product_of (joined.Truths xs) = operand.Value basic.Boolean (typed.Every xs)

abbrev pub sign_of : Sign → ℕ → TypedExpr → TypedExpr
sign_of sign.Plus line x = x
sign_of sign.Minus line x = typed.Unary one.Negative line x

-- a sign stands before a number, and applies to the first term
unfoldable pub signed : Option (Sign × Span) → Operand → Rule Operand
signed None v = Given v
signed (Some p) v =
    Then (there (number_of v) code.Types) (λ x. Given (operand.Value basic.Integer (sign_of p.0 p.1.line x)))

-- `~` stands before a truth value
unfoldable pub negated : ℕ → Operand → Rule Operand
negated line v = Then (there (truth_of v) code.Types) (λ x. Given (operand.Value basic.Boolean (typed.Unary one.Not line x)))
