-- To be believed.
-- What is passed to parameters (Wirth, The Programming Language Oberon, Oberon-07). A VAR parameter takes a variable that may
-- be written, of the same type; a structured value a variable of the same type or a string; an open array any array of the
-- same element. A record may be of an extension: as a value the part is passed that is of the parameter's type, and with a VAR
-- parameter its type is told.
use Rattle.std.specs.Prelude.{ℕ, ◌+◌, List, length, Bool, true, false, Option, Some, None, option_map, nat_lt, if◌then◌else◌}
use Rattle.ob_check_scope.specs.declared.rule.RuleCode.TheVariants as code
use Rattle.ob_types.specs.declared.exports.FormalKind.{FormalKind}
use Rattle.ob_types.specs.declared.exports.FormalKind.TheVariants as kind
use Rattle.ob_types.specs.declared.structure.ObType.{ObType, out-ObType}
use Rattle.ob_types.specs.declared.structure.ObType.TheOpen.{ObType-F}
use Rattle.ob_types.specs.Types.{is_char, same}
use Rattle.ob_mean.specs.declared.expression.Argument.{Argument}
use Rattle.ob_mean.specs.declared.expression.Argument.TheVariants as argument
use Rattle.ob_mean.specs.declared.expression.Designator.{Designator}
use Rattle.ob_check_scope.specs.Rule.{Rule, Given, Breaks, Then, Needs, there}
use Rattle.ob_check_operand.specs.declared.operand.Operand.{Operand}
use Rattle.ob_check_operand.specs.declared.operand.Operand.TheVariants as operand
use Rattle.ob_check_operand.specs.Operands.{TypeLayer, Variables, text_variable, value_for}
use Rattle.ob_check_operand.specs.Selecting.{Selected, part_as}
use Rattle.ob_check_kinds.specs.Kinds.{kind_of, levels_to}

-- whether an array has these elements
abbrev pub has_elements_layer : ObType → TypeLayer → Bool
has_elements_layer element (ObType-F.Basic b) = false
has_elements_layer element (ObType-F.Array n e) = same element e
has_elements_layer element (ObType-F.Open e) = same element e
has_elements_layer element (ObType-F.Record r) = false

abbrev pub has_elements : ObType → ObType → Bool
has_elements element t = has_elements_layer element (out-ObType t)

-- what a VAR parameter of record type names: the type that a record is declared with is told with it, and of what such a parameter
-- of the running procedure names, what was told of that is told again
abbrev pub named_record : Bool → ObType → Designator → ℕ → Argument
named_record true t d levels = argument.Again d levels
named_record false t d levels = argument.Typed d (kind_of t) levels

-- a record, which may be of an extension: what a VAR parameter names, or the part of a value
abbrev pub record_passed : FormalKind → ObType → ObType → Designator → Bool → Option Argument
record_passed kind.Variable formal t d told = option_map (λ levels. named_record told t d levels) (levels_to formal t)
record_passed kind.Value formal t d told = option_map (λ part. argument.Place part) (part_as formal t d)

-- a variable for a parameter that names one
abbrev pub variable_layer : TypeLayer → FormalKind → ObType → ObType → Designator → Bool → Option Argument
variable_layer (ObType-F.Open e) k formal t d told = if has_elements e t then Some (argument.Open d) else None
variable_layer (ObType-F.Basic b) k formal t d told = if same formal t then Some (argument.Place d) else None
variable_layer (ObType-F.Array n e) k formal t d told = if same formal t then Some (argument.Place d) else None
variable_layer (ObType-F.Record r) k formal t d told = record_passed k formal t d told

unfoldable pub variable_passed : FormalKind → ObType → ObType → Designator → Bool → Option Argument
variable_passed k formal t d told = variable_layer (out-ObType formal) k formal t d told

-- a variable as what is passed, with its type
unfoldable pub variable_argument : FormalKind → ObType → Selected → Rule (Argument × Variables)
variable_argument k formal at =
    Then (there (variable_passed k formal at.0 at.1 at.3) code.Parameters) (λ a. Given (a, at.2))

-- a string as a variable of so many elements, more than it has characters
unfoldable pub fixed_text : Variables → List ℕ → ℕ → Rule (Argument × Variables)
fixed_text vs t n = Needs (nat_lt (length t) n) code.Types (Then (text_variable vs t n) (λ p. Given (argument.Place p.0, p.1)))

-- a string for an array of CHAR; for an open one it has an element more than characters
abbrev pub text_layer : Variables → List ℕ → TypeLayer → Rule (Argument × Variables)
text_layer vs t (ObType-F.Basic b) = Breaks code.Parameters
text_layer vs t (ObType-F.Array n e) = Needs (is_char e) code.Parameters (fixed_text vs t n)
text_layer vs t (ObType-F.Open e) =
    Needs (is_char e) code.Parameters (Then (text_variable vs t (length t + 1)) (λ p. Given (argument.Open p.0, p.1)))
text_layer vs t (ObType-F.Record r) = Breaks code.Parameters

unfoldable pub text_passed : Variables → ObType → List ℕ → Rule (Argument × Variables)
text_passed vs formal t = text_layer vs t (out-ObType formal)

-- a structured value: a variable alone, or a string
unfoldable pub structure_passed : Variables → ObType → Bool → Operand → Rule (Argument × Variables)
structure_passed vs formal alone (operand.Value b x) = Breaks code.Parameters
structure_passed vs formal alone (operand.Text t) = text_passed vs formal t
structure_passed vs formal alone (operand.Place t d) =
    Needs alone code.Parameters (variable_argument kind.Value formal (t, d, vs, false))

-- A value, and whether it is written as a variable alone. A trap names the line of its first token.
abbrev pub value_layer : Variables → ObType → ℕ → Bool → Operand → TypeLayer → Rule (Argument × Variables)
value_layer vs formal line alone v (ObType-F.Basic b) =
    Then (there (value_for b line v) code.Types) (λ x. Given (argument.Value x, vs))
value_layer vs formal line alone v (ObType-F.Array n e) = structure_passed vs formal alone v
value_layer vs formal line alone v (ObType-F.Open e) = structure_passed vs formal alone v
value_layer vs formal line alone v (ObType-F.Record r) = structure_passed vs formal alone v

unfoldable pub value_passed : Variables → ObType → ℕ → Bool → Operand → Rule (Argument × Variables)
value_passed vs formal line alone v = value_layer vs formal line alone v (out-ObType formal)
