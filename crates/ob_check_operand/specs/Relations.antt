-- To be believed.
-- Relations (Wirth, The Programming Language Oberon, Oberon-07): of numbers, of characters, of truth values by `=` and `#`,
-- and of texts, which are strings and arrays of CHAR.
use Rattle.std.specs.Prelude.{ℕ, [], ◌∷◌, Bool, true, false, ◌&&◌}
use Rattle.ob_check_scope.specs.declared.rule.RuleCode.TheVariants as code
use Rattle.ob_tree.specs.declared.tree.Relation.{Relation as Written}
use Rattle.ob_tree.specs.declared.tree.Relation.TheVariants as written
use Rattle.ob_types.specs.declared.structure.Basic.{Basic}
use Rattle.ob_types.specs.declared.structure.Basic.TheVariants as basic
use Rattle.ob_mean.specs.declared.expression.TypedExpr.{TypedExpr}
use Rattle.ob_mean.specs.declared.expression.TypedExpr.TheVariants as typed
use Rattle.ob_mean.specs.declared.operator.Operator.TheVariants as operator
use Rattle.ob_mean.specs.declared.operator.Relation.{Relation}
use Rattle.ob_mean.specs.declared.operator.Relation.TheVariants as relation
use Rattle.ob_check_scope.specs.Rule.{Rule, Given, Breaks, Then, Needs, there}
use Rattle.ob_check_operand.specs.declared.operand.Operand.{Operand}
use Rattle.ob_check_operand.specs.declared.operand.Operand.TheVariants as operand
use Rattle.ob_check_operand.specs.Operands.{Variables, character_of, is_text, text_place}
use Rattle.ob_check_operand.specs.Joining.{operation}

abbrev pub relation_of : Written → Relation
relation_of written.Equal = relation.Equal
relation_of written.NotEqual = relation.NotEqual
relation_of written.Less = relation.Less
relation_of written.LessEqual = relation.LessEqual
relation_of written.Greater = relation.Greater
relation_of written.GreaterEqual = relation.GreaterEqual

abbrev pub is_equality : Relation → Bool
is_equality relation.Equal = true
is_equality relation.NotEqual = true
is_equality relation.Less = false
is_equality relation.LessEqual = false
is_equality relation.Greater = false
is_equality relation.GreaterEqual = false

abbrev pub is_number : Basic → Bool
is_number basic.Integer = true
is_number basic.Byte = true
is_number basic.Boolean = false
is_number basic.Char = false

abbrev pub is_character : Basic → Bool
is_character basic.Char = true
is_character basic.Integer = false
is_character basic.Byte = false
is_character basic.Boolean = false

abbrev pub is_truth : Basic → Bool
is_truth basic.Boolean = true
is_truth basic.Integer = false
is_truth basic.Byte = false
is_truth basic.Char = false

-- whether values of these types may be related
abbrev pub are_related : Relation → Basic → Basic → Bool
are_related r basic.Integer c = is_number c
are_related r basic.Byte c = is_number c
are_related r basic.Char c = is_character c
are_related r basic.Boolean c = is_truth c && is_equality r

-- whether a value of a type may stand before a relation
abbrev pub may_relate_basic : Relation → Basic → Bool
may_relate_basic r basic.Boolean = is_equality r
may_relate_basic r basic.Integer = true
may_relate_basic r basic.Byte = true
may_relate_basic r basic.Char = true

-- whether an operand may
abbrev pub may_relate : Relation → Operand → Bool
may_relate r (operand.Value b x) = may_relate_basic r b
may_relate r (operand.Text t) = true
may_relate r (operand.Place t d) = is_text t

-- whether a relation of two values holds
abbrev pub compared : Relation → ℕ → TypedExpr → TypedExpr → Operand
compared r line x y =
    operand.Value basic.Boolean (typed.Chain x (operation (operator.Compare r) line y ∷ []))

-- two texts, each where it stands
unfoldable pub texts_related : Relation → Variables → Operand → Operand → Rule (Operand × Variables)
texts_related r vs v w =
    Then (text_place vs v) (λ p. Then (text_place p.1 w) (λ q.
    Given (operand.Value basic.Boolean (typed.Texts r p.0 q.0), q.1)))

-- two values of types that may be related
unfoldable pub values_related : Relation → ℕ → Basic → TypedExpr → Basic → TypedExpr → Rule Operand
values_related r line b x c y = Needs (are_related r b c) code.Types (Given (compared r line x y))

-- two characters, of which one is written as a string
unfoldable pub characters_related : Relation → ℕ → Operand → Operand → Rule Operand
characters_related r line v w =
    Then (there (character_of v) code.Types) (λ x.
    Then (there (character_of w) code.Types) (λ y. Given (compared r line x y)))

unfoldable pub related : Relation → ℕ → Variables → Operand → Operand → Rule (Operand × Variables)
related r line vs (operand.Value b x) (operand.Value c y) = Then (values_related r line b x c y) (λ o. Given (o, vs))
related r line vs (operand.Value b x) (operand.Text t) =
    Then (characters_related r line (operand.Value b x) (operand.Text t)) (λ o. Given (o, vs))
related r line vs (operand.Text t) (operand.Value c y) =
    Then (characters_related r line (operand.Text t) (operand.Value c y)) (λ o. Given (o, vs))
related r line vs (operand.Value b x) (operand.Place t d) = Breaks code.Types
related r line vs (operand.Place t d) (operand.Value c y) = Breaks code.Types
related r line vs (operand.Text t) (operand.Text u) = texts_related r vs (operand.Text t) (operand.Text u)
related r line vs (operand.Text t) (operand.Place u e) = texts_related r vs (operand.Text t) (operand.Place u e)
related r line vs (operand.Place t d) (operand.Text u) = texts_related r vs (operand.Place t d) (operand.Text u)
related r line vs (operand.Place t d) (operand.Place u e) = texts_related r vs (operand.Place t d) (operand.Place u e)
