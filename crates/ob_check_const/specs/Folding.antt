-- To be believed.
-- What constants are worth: the operators and functions of constants, by the meaning of the same operators when they run.
-- A value that isn't there stands for one whose evaluation would trap.
use Rattle.std.specs.Prelude.{ℕ, ℤ, pos, Bool, true, false, not, List, [], ◌∷◌, Option, Some, None, is_some, option_map}
use Rattle.std.specs.Ordering.{int_eq}
use Rattle.ob_tree.specs.declared.tree.Sign.{Sign}
use Rattle.ob_tree.specs.declared.tree.Sign.TheVariants as sign
use Rattle.ob_tree.specs.declared.tree.Relation.{Relation}
use Rattle.ob_tree.specs.declared.tree.Relation.TheVariants as written
use Rattle.ob_tree.specs.declared.tree.AddOperator.{AddOperator}
use Rattle.ob_tree.specs.declared.tree.AddOperator.TheVariants as add
use Rattle.ob_tree.specs.declared.tree.MulOperator.{MulOperator}
use Rattle.ob_tree.specs.declared.tree.MulOperator.TheVariants as mul
use Rattle.ob_mean.specs.declared.operator.Operator.{Operator}
use Rattle.ob_mean.specs.declared.operator.Operator.TheVariants as operator
use Rattle.ob_mean.specs.declared.operator.UnaryOperator.{UnaryOperator}
use Rattle.ob_mean.specs.declared.operator.UnaryOperator.TheVariants as one
use Rattle.ob_mean.specs.declared.operator.Relation.{Relation as Related}
use Rattle.ob_mean.specs.declared.operator.Relation.TheVariants as relation
use Rattle.ob_mean.specs.Arithmetic.{Computed, Gives, Faults, apply, apply_one, numbers_relate, texts_relate, truth}
use Rattle.ob_mean.specs.Texts.{before_zero, natural}
use Rattle.ob_types.specs.declared.exports.Constant.{Constant}
use Rattle.ob_types.specs.declared.exports.Constant.TheVariants as constant
use Rattle.ob_check_const.specs.declared.folding.Folded.{Folded}
use Rattle.ob_check_const.specs.declared.folding.Folded.TheVariants as folded
use Rattle.ob_check_scope.specs.declared.predeclared.Function.{Function}
use Rattle.ob_check_scope.specs.declared.predeclared.Function.TheVariants as function

-- ---- numbers

-- a number, unless it would trap
abbrev pub given : Computed → Option ℤ
given (Gives z) = Some z
given (Faults kind) = None

abbrev pub applied : Operator → Option ℤ → Option ℤ → Option ℤ
applied op (Some x) (Some y) = given (apply op x y)
applied op (Some x) None = None
applied op None y = None

abbrev pub applied_one : UnaryOperator → Option ℤ → Option ℤ
applied_one op (Some x) = given (apply_one op x)
applied_one op None = None

-- ---- truth values: the second is evaluated where it is needed

abbrev pub every : Option Bool → Option Bool → Option Bool
every (Some true) y = y
every (Some false) y = Some false
every None y = None

abbrev pub either : Option Bool → Option Bool → Option Bool
either (Some true) y = Some true
either (Some false) y = y
either None y = None

-- ---- what may stand before an operator

abbrev pub is_number : Folded → Bool
is_number (folded.Integer x) = true
is_number _ = false

abbrev pub is_truth : Folded → Bool
is_truth (folded.Boolean x) = true
is_truth _ = false

abbrev pub adds : AddOperator → Folded → Bool
adds add.Or v = is_truth v
adds _ v = is_number v

abbrev pub multiplies : MulOperator → Folded → Bool
multiplies mul.And v = is_truth v
multiplies _ v = is_number v

-- truth values are equal or not
abbrev pub is_equality : Related → Bool
is_equality relation.Equal = true
is_equality relation.NotEqual = true
is_equality _ = false

abbrev pub relates : Related → Folded → Bool
relates r (folded.Boolean x) = is_equality r
relates r _ = true

-- ---- operators. None: the types don't fit

abbrev pub sum_of : AddOperator → Folded → Folded → Option Folded
sum_of add.Plus (folded.Integer x) (folded.Integer y) = Some (folded.Integer (applied operator.Plus x y))
sum_of add.Minus (folded.Integer x) (folded.Integer y) = Some (folded.Integer (applied operator.Minus x y))
sum_of add.Or (folded.Boolean x) (folded.Boolean y) = Some (folded.Boolean (either x y))
sum_of _ _ _ = None

abbrev pub product_of : MulOperator → Folded → Folded → Option Folded
product_of mul.Times (folded.Integer x) (folded.Integer y) = Some (folded.Integer (applied operator.Times x y))
product_of mul.Div (folded.Integer x) (folded.Integer y) = Some (folded.Integer (applied operator.Quotient x y))
product_of mul.Mod (folded.Integer x) (folded.Integer y) = Some (folded.Integer (applied operator.Remainder x y))
product_of mul.And (folded.Boolean x) (folded.Boolean y) = Some (folded.Boolean (every x y))
product_of _ _ _ = None

-- a sign stands before a number
abbrev pub sign_of : Sign → Folded → Option Folded
sign_of sign.Plus (folded.Integer x) = Some (folded.Integer x)
sign_of sign.Minus (folded.Integer x) = Some (folded.Integer (applied_one one.Negative x))
sign_of _ _ = None

abbrev pub not_of : Folded → Option Folded
not_of (folded.Boolean x) = Some (folded.Boolean (option_map not x))
not_of _ = None

-- ---- relations

abbrev pub relation_of : Relation → Related
relation_of written.Equal = relation.Equal
relation_of written.NotEqual = relation.NotEqual
relation_of written.Less = relation.Less
relation_of written.LessEqual = relation.LessEqual
relation_of written.Greater = relation.Greater
relation_of written.GreaterEqual = relation.GreaterEqual

abbrev pub numbers_related : Related → Option ℤ → Option ℤ → Option Bool
numbers_related r (Some x) (Some y) = Some (numbers_relate r x y)
numbers_related r (Some x) None = None
numbers_related r None y = None

-- truth values are equal or not
abbrev pub truths_related : Related → Option Bool → Option Bool → Option Folded
truths_related relation.Equal x y = Some (folded.Boolean (numbers_related relation.Equal (option_map truth x) (option_map truth y)))
truths_related relation.NotEqual x y = Some (folded.Boolean (numbers_related relation.NotEqual (option_map truth x) (option_map truth y)))
truths_related _ x y = None

-- a string of one character is a character, beside one
abbrev pub character_related : Related → Option ℕ → List ℕ → Option Folded
character_related r x (c ∷ []) = Some (folded.Boolean (numbers_related r (option_map pos x) (Some (pos c))))
character_related r x _ = None

abbrev pub related_character : Related → List ℕ → Option ℕ → Option Folded
related_character r (c ∷ []) y = Some (folded.Boolean (numbers_related r (Some (pos c)) (option_map pos y)))
related_character r _ y = None

abbrev pub related_of : Related → Folded → Folded → Option Folded
related_of r (folded.Integer x) (folded.Integer y) = Some (folded.Boolean (numbers_related r x y))
related_of r (folded.Boolean x) (folded.Boolean y) = truths_related r x y
related_of r (folded.Char x) (folded.Char y) = Some (folded.Boolean (numbers_related r (option_map pos x) (option_map pos y)))
related_of r (folded.Char x) (folded.Text t) = character_related r x t
related_of r (folded.Text s) (folded.Char y) = related_character r s y
related_of r (folded.Text s) (folded.Text t) = Some (folded.Boolean (Some (texts_relate r (before_zero s) (before_zero t))))
related_of _ _ _ = None

-- ---- functions

abbrev pub is_not_zero : ℤ → Bool
is_not_zero z = not (int_eq z (pos 0))

abbrev pub character_of : List ℕ → Option Folded
character_of (c ∷ []) = Some (folded.Integer (Some (pos c)))
character_of _ = None

abbrev pub ordinal_of : Folded → Option Folded
ordinal_of (folded.Char x) = Some (folded.Integer (option_map pos x))
ordinal_of (folded.Boolean x) = Some (folded.Integer (option_map truth x))
ordinal_of (folded.Text t) = character_of t
ordinal_of (folded.Integer x) = None

-- whether a function takes this value first: LEN takes a variable, which is no constant
abbrev pub takes : Function → Folded → Bool
takes function.Ord v = is_some (ordinal_of v)
takes function.Len v = false
takes _ v = is_number v

-- whether a function takes a second value
abbrev pub is_shift : Function → Bool
is_shift function.Lsl = true
is_shift function.Asr = true
is_shift function.Ror = true
is_shift _ = false

-- a function of one value
abbrev pub one_of : Function → Folded → Option Folded
one_of function.Abs (folded.Integer x) = Some (folded.Integer (applied_one one.Absolute x))
one_of function.Odd (folded.Integer x) = Some (folded.Boolean (option_map is_not_zero (applied_one one.Odd x)))
one_of function.Chr (folded.Integer x) = Some (folded.Char (option_map natural (applied_one one.Character x)))
one_of function.Ord v = ordinal_of v
one_of _ _ = None

-- a function of two
abbrev pub two_of : Function → Folded → Folded → Option Folded
two_of function.Lsl (folded.Integer x) (folded.Integer y) = Some (folded.Integer (applied operator.ShiftLeft x y))
two_of function.Asr (folded.Integer x) (folded.Integer y) = Some (folded.Integer (applied operator.ShiftRight x y))
two_of function.Ror (folded.Integer x) (folded.Integer y) = Some (folded.Integer (applied operator.Rotate x y))
two_of _ _ _ = None

-- ---- constants

-- what a declared constant is worth
abbrev pub folded_of : Constant → Folded
folded_of (constant.Integer n) = folded.Integer (Some n)
folded_of (constant.Boolean b) = folded.Boolean (Some b)
folded_of (constant.Char c) = folded.Char (Some c)
folded_of (constant.Text t) = folded.Text t

-- the constant, unless it would trap
abbrev pub constant_of : Folded → Option Constant
constant_of (folded.Integer x) = option_map constant.Integer x
constant_of (folded.Boolean x) = option_map constant.Boolean x
constant_of (folded.Char x) = option_map constant.Char x
constant_of (folded.Text t) = Some (constant.Text t)
