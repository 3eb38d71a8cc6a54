-- To be believed.
-- The functions that are declared before any module (Wirth, The Programming Language Oberon, Oberon-07).
use Rattle.std.specs.Prelude.{ℕ, [], ◌∷◌, Bool, true, false, Option, Some, None, is_some, option_map, if◌then◌else◌}
use Rattle.ob_check_scope.specs.declared.rule.RuleCode.TheVariants as code
use Rattle.ob_types.specs.declared.structure.Basic.{Basic}
use Rattle.ob_types.specs.declared.structure.Basic.TheVariants as basic
use Rattle.ob_types.specs.declared.structure.ObType.{ObType, out-ObType}
use Rattle.ob_types.specs.declared.structure.ObType.TheOpen.{ObType-F}
use Rattle.ob_mean.specs.declared.expression.TypedExpr.{TypedExpr}
use Rattle.ob_mean.specs.declared.expression.TypedExpr.TheVariants as typed
use Rattle.ob_mean.specs.declared.operator.Operator.{Operator}
use Rattle.ob_mean.specs.declared.operator.Operator.TheVariants as operator
use Rattle.ob_mean.specs.declared.operator.UnaryOperator.{UnaryOperator}
use Rattle.ob_mean.specs.declared.operator.UnaryOperator.TheVariants as one
use Rattle.ob_check_scope.specs.declared.predeclared.Function.{Function}
use Rattle.ob_check_scope.specs.declared.predeclared.Function.TheVariants as function
use Rattle.ob_check_scope.specs.Rule.{Rule, Given, Then, there}
use Rattle.ob_check_operand.specs.declared.operand.Operand.{Operand}
use Rattle.ob_check_operand.specs.declared.operand.Operand.TheVariants as operand
use Rattle.ob_check_operand.specs.Operands.{TypeLayer, number_of, only_character}
use Rattle.ob_check_operand.specs.Joining.{operation}

-- what ORD takes: a character, a truth value, or a string of one character
abbrev pub ordinal_of : Operand → Option TypedExpr
ordinal_of (operand.Value basic.Char x) = Some x
ordinal_of (operand.Value basic.Boolean x) = Some x
ordinal_of (operand.Value basic.Integer x) = None
ordinal_of (operand.Value basic.Byte x) = None
ordinal_of (operand.Text t) = only_character t
ordinal_of (operand.Place t d) = None

abbrev pub is_array_layer : TypeLayer → Bool
is_array_layer (ObType-F.Basic b) = false
is_array_layer (ObType-F.Array n e) = true
is_array_layer (ObType-F.Open e) = true
is_array_layer (ObType-F.Record r) = false

-- an array, open or not
abbrev pub is_array : ObType → Bool
is_array t = is_array_layer (out-ObType t)

-- LEN of an array variable
abbrev pub length_of : Bool → Operand → Option Operand
length_of alone (operand.Value b x) = None
length_of alone (operand.Text t) = None
length_of false (operand.Place t d) = None
length_of true (operand.Place t d) = if is_array t then Some (operand.Value basic.Integer (typed.Length d)) else None

abbrev pub unary : Basic → UnaryOperator → ℕ → Option TypedExpr → Option Operand
unary b op line x = option_map (λ y. operand.Value b (typed.Unary op line y)) x

-- whether a function takes this value first, and whether that is written as a variable alone
abbrev pub takes : Function → Bool → Operand → Bool
takes function.Ord alone v = is_some (ordinal_of v)
takes function.Len alone v = is_some (length_of alone v)
takes function.Abs alone v = is_some (number_of v)
takes function.Odd alone v = is_some (number_of v)
takes function.Chr alone v = is_some (number_of v)
takes function.Lsl alone v = is_some (number_of v)
takes function.Asr alone v = is_some (number_of v)
takes function.Ror alone v = is_some (number_of v)

-- A function of one value, and whether that is written as a variable alone. A trap names the line of the function's name.
abbrev pub one_of : Function → ℕ → Bool → Operand → Option Operand
one_of function.Abs line alone v = unary basic.Integer one.Absolute line (number_of v)
one_of function.Odd line alone v = unary basic.Boolean one.Odd line (number_of v)
one_of function.Ord line alone v = unary basic.Integer one.Ordinal line (ordinal_of v)
one_of function.Chr line alone v = unary basic.Char one.Character line (number_of v)
one_of function.Len line alone v = length_of alone v
one_of function.Lsl line alone v = None
one_of function.Asr line alone v = None
one_of function.Ror line alone v = None

abbrev pub shift_of : Function → Option Operator
shift_of function.Lsl = Some operator.ShiftLeft
shift_of function.Asr = Some operator.ShiftRight
shift_of function.Ror = Some operator.Rotate
shift_of function.Abs = None
shift_of function.Odd = None
shift_of function.Ord = None
shift_of function.Chr = None
shift_of function.Len = None

-- a shift of a number by another
abbrev pub shifted : Operator → ℕ → TypedExpr → TypedExpr → Operand
shifted op line x y = operand.Value basic.Integer (typed.Chain x (operation op line y ∷ []))

-- a function of two values
unfoldable pub two_of : Function → ℕ → Operand → Operand → Rule Operand
two_of f line v w =
    Then (there (shift_of f) code.Parameters) (λ op.
    Then (there (number_of v) code.Parameters) (λ x.
    Then (there (number_of w) code.Parameters) (λ y.
    Given (shifted op line x y))))
