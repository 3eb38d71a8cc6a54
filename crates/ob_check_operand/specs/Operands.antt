-- To be believed.
-- Operands: values of basic type, strings, and structured things (Wirth, The Programming Language Oberon, Oberon-07).
use Rattle.std.specs.Prelude.{ℕ, ℤ, pos, ◌+◌, List, [], ◌∷◌, length, Bool, true, false, Option, Some, None, nat_le}
use Rattle.ob_check_scope.specs.declared.rule.RuleCode.TheVariants as code
use Rattle.ob_types.specs.declared.exports.Constant.{Constant}
use Rattle.ob_types.specs.declared.exports.Constant.TheVariants as constant
use Rattle.ob_types.specs.declared.structure.Basic.{Basic}
use Rattle.ob_types.specs.declared.structure.Basic.TheVariants as basic
use Rattle.ob_types.specs.declared.structure.Field.{Field}
use Rattle.ob_types.specs.declared.structure.RecordType.{RecordType}
use Rattle.ob_types.specs.declared.structure.ObType.{ObType, out-ObType}
use Rattle.ob_types.specs.declared.structure.ObType.TheOpen.{ObType-F}
use Rattle.ob_types.specs.Types.{is_char}
use Rattle.ob_mean.specs.declared.expression.Designator.{Designator}
use Rattle.ob_mean.specs.declared.expression.Designator.TheVariants as designator
use Rattle.ob_mean.specs.declared.expression.TypedExpr.{TypedExpr}
use Rattle.ob_mean.specs.declared.expression.TypedExpr.TheVariants as typed
use Rattle.ob_mean.specs.declared.expression.Variable.TheVariants as variable
use Rattle.ob_mean.specs.declared.operator.UnaryOperator.TheVariants as one
use Rattle.ob_check_scope.specs.Rule.{Rule, Given, Breaks, Needs}
pub use Rattle.ob_check_strings.specs.Strings.{Variables}
use Rattle.ob_check_strings.specs.Strings.{string_number, with_string}
use Rattle.ob_check_operand.specs.declared.operand.Operand.{Operand}
use Rattle.ob_check_operand.specs.declared.operand.Operand.TheVariants as operand

abbrev pub TypeLayer : Type 0
TypeLayer = ObType-F ObType Field RecordType

-- ---- what an operand is worth

-- a number, of type INTEGER or BYTE
abbrev pub number_of : Operand → Option TypedExpr
number_of (operand.Value basic.Integer x) = Some x
number_of (operand.Value basic.Byte x) = Some x
number_of (operand.Value basic.Boolean x) = None
number_of (operand.Value basic.Char x) = None
number_of (operand.Text t) = None
number_of (operand.Place t d) = None

-- a truth value
abbrev pub truth_of : Operand → Option TypedExpr
truth_of (operand.Value basic.Boolean x) = Some x
truth_of (operand.Value basic.Integer x) = None
truth_of (operand.Value basic.Byte x) = None
truth_of (operand.Value basic.Char x) = None
truth_of (operand.Text t) = None
truth_of (operand.Place t d) = None

-- the character of a string of one
abbrev pub only_character : List ℕ → Option TypedExpr
only_character [] = None
only_character (c ∷ []) = Some (typed.Constant (pos c))
only_character (c ∷ d ∷ cs) = None

-- a character: a string of one is one too
abbrev pub character_of : Operand → Option TypedExpr
character_of (operand.Value basic.Char x) = Some x
character_of (operand.Value basic.Integer x) = None
character_of (operand.Value basic.Boolean x) = None
character_of (operand.Value basic.Byte x) = None
character_of (operand.Text t) = only_character t
character_of (operand.Place t d) = None

-- a number for a BYTE: one of type INTEGER is tested, and the trap names this line
abbrev pub byte_of : ℕ → Operand → Option TypedExpr
byte_of line (operand.Value basic.Byte x) = Some x
byte_of line (operand.Value basic.Integer x) = Some (typed.Unary one.Byte line x)
byte_of line (operand.Value basic.Boolean x) = None
byte_of line (operand.Value basic.Char x) = None
byte_of line (operand.Text t) = None
byte_of line (operand.Place t d) = None

-- what may be assigned to a variable of a basic type, as the value of that type
abbrev pub value_for : Basic → ℕ → Operand → Option TypedExpr
value_for basic.Integer line v = number_of v
value_for basic.Boolean line v = truth_of v
value_for basic.Char line v = character_of v
value_for basic.Byte line v = byte_of line v

-- ---- what constants and variables are worth

abbrev pub truth_number : Bool → ℤ
truth_number true = pos 1
truth_number false = pos 0

abbrev pub operand_of_constant : Constant → Operand
operand_of_constant (constant.Integer n) = operand.Value basic.Integer (typed.Constant n)
operand_of_constant (constant.Boolean b) = operand.Value basic.Boolean (typed.Constant (truth_number b))
operand_of_constant (constant.Char c) = operand.Value basic.Char (typed.Constant (pos c))
operand_of_constant (constant.Text t) = operand.Text t

abbrev pub operand_layer : TypeLayer → ObType → Designator → Operand
operand_layer (ObType-F.Basic b) t d = operand.Value b (typed.Read d)
operand_layer (ObType-F.Array n e) t d = operand.Place t d
operand_layer (ObType-F.Open e) t d = operand.Place t d
operand_layer (ObType-F.Record r) t d = operand.Place t d

-- a variable, or a part of one: of basic type its value, else the place
unfoldable pub operand_of_variable : ObType → Designator → Operand
operand_of_variable t d = operand_layer (out-ObType t) t d

-- ---- strings that become variables

abbrev pub is_text_layer : TypeLayer → Bool
is_text_layer (ObType-F.Basic b) = false
is_text_layer (ObType-F.Array n e) = is_char e
is_text_layer (ObType-F.Open e) = is_char e
is_text_layer (ObType-F.Record r) = false

-- an array of CHAR, open or not
abbrev pub is_text : ObType → Bool
is_text t = is_text_layer (out-ObType t)

-- a variable has fewer than 2^31 cells
abbrev pub max_elements : ℕ
max_elements = 2147483647

-- the variable that stands for a string in so many elements
abbrev pub string_variable : Variables → List ℕ → ℕ → Designator
string_variable vs t n = designator.Whole (variable.OfModule (string_number vs t n))

-- a string as a variable, in so many elements
unfoldable pub text_variable : Variables → List ℕ → ℕ → Rule (Designator × Variables)
text_variable vs t n = Needs (nat_le n max_elements) code.Size (Given (string_variable vs t n, with_string vs t n))

-- where a text stands: a string in its length and one element more
unfoldable pub text_place : Variables → Operand → Rule (Designator × Variables)
text_place vs (operand.Text t) = text_variable vs t (length t + 1)
text_place vs (operand.Place t d) = Needs (is_text t) code.Types (Given (d, vs))
text_place vs (operand.Value b x) = Breaks code.Types
