-- Operands fit, and what is made of them.
use Rattle.std.proofs.Common.{◌≡◌, ℕ, ◌+◌, ◌++◌, length, Bool, true, false, cond, List, [], ◌∷◌, Option, Some, None, option_map, slice_get, refl, sym, ap, ◌∙◌, subst}
use Rattle.ob_tree.specs.declared.tree.Sign.{Sign}
use Rattle.ob_tree.specs.declared.tree.Sign.TheVariants as sign
use Rattle.ob_scan.specs.declared.token.Span.{Span}
use Rattle.ob_types.specs.declared.exports.Constant.{Constant}
use Rattle.ob_types.specs.declared.exports.Constant.TheVariants as constant
use Rattle.ob_types.specs.declared.exports.FormalKind.{FormalKind}
use Rattle.ob_types.specs.declared.exports.FormalKind.TheVariants as kind
use Rattle.ob_types.specs.declared.structure.Basic.{Basic}
use Rattle.ob_types.specs.declared.structure.Basic.TheVariants as basic
use Rattle.ob_types.specs.declared.structure.ObType.{ObType, end_of-ObType, more_of-ObType, out-ObType}
use Rattle.ob_types.specs.declared.structure.ObType.TheVariants.{Basic as OfBasic, Array', Open', Array, Open, Record}
use Rattle.ob_types.specs.declared.structure.ObType.TheBlock as block
use Rattle.ob_types.specs.Types.{same}
use Rattle.ob_types.proofs.SameType.{same_true}
use Rattle.ob_mean.specs.declared.expression.TypedExpr.{TypedExpr}
use Rattle.ob_mean.specs.declared.expression.TypedExpr.TheVariants as typed
use Rattle.ob_mean.specs.declared.expression.Designator.{Designator}
use Rattle.ob_mean.specs.declared.expression.Argument.{Argument}
use Rattle.ob_mean.specs.declared.expression.Argument.TheVariants as argument
use Rattle.ob_mean.specs.declared.expression.Operation.{Operation}
use Rattle.ob_mean.specs.declared.module.ModuleVariable.TheVariants as module_variable
use Rattle.ob_mean.specs.declared.module.Parameter.TheVariants as parameter
use Rattle.ob_mean.specs.declared.operator.Operator.{Operator}
use Rattle.ob_mean.specs.declared.operator.Relation.{Relation}
use Rattle.ob_mean.specs.declared.operator.UnaryOperator.{UnaryOperator}
use Rattle.ob_mean.specs.declared.operator.UnaryOperator.TheVariants as one
use Rattle.ob_mean.specs.declared.shape.Shape.{Shape}
use Rattle.ob_mean.specs.declared.shape.Shape.TheVariants as shape
use Rattle.ob_mean.specs.WellFormed.{Names, Of, IsText, is_told, object_of, module_object, elements_in}
use Rattle.ob_check_scope.specs.declared.predeclared.Function.{Function}
use Rattle.ob_check_scope.specs.declared.predeclared.Function.TheVariants as function
use Rattle.ob_check_scope.specs.Rule.{gives}
use Rattle.ob_check_scope.specs.declared.rule.RuleCode.TheVariants as code
use Rattle.ob_check_operand.specs.declared.joining.Joined.{Joined}
use Rattle.ob_check_operand.specs.declared.joining.Joined.TheVariants as joined
use Rattle.ob_check_operand.specs.declared.joining.Joining.{Joining}
use Rattle.ob_check_operand.specs.declared.joining.Joining.TheVariants as joining
use Rattle.ob_check_operand.specs.declared.operand.Operand.{Operand}
use Rattle.ob_check_operand.specs.declared.operand.Operand.TheVariants as operand
use Rattle.ob_check_operand.specs.Operands.{Variables, number_of, truth_of, character_of, only_character, byte_of, value_for, operand_of_constant, operand_of_variable, text_variable, text_place}
use Rattle.ob_check_operand.specs.Joining.{operation, with_number, with_truth, with_operand, sum_of, product_of, sign_of, signed, negated}
use Rattle.ob_check_operand.specs.Functions.{ordinal_of, is_array, length_of, unary, one_of, two_of}
use Rattle.ob_check_strings.specs.Strings.{string_at, number_or, with_more}
use Rattle.ob_check_strings.proofs.Numbers.{string_reads}
use Rattle.ob_check_operand.specs.Relations.{compared, texts_related, values_related, characters_related, related}
use Rattle.ob_check_operand.specs.Passing.{has_elements, named_record, record_passed, variable_passed, variable_argument, fixed_text, text_passed, structure_passed, value_passed}
use Rattle.ob_check_operand.specs.Selecting.{Selected, element_of, part_as}
use Rattle.ob_check_stmt.specs.Assignments.{is_open}
use Rattle.ob_types.specs.Declarable.{is_record}
use Rattle.ob_check_kinds.specs.Kinds.{levels_to}
use Rattle.ob_check_kinds.specs.Shapes.{shape_of, parameter_of}
use Rattle.ob_check_laws.specs.Fitting.{Suits, TellsRight, OperandFits, OperationListFits, ExprListFits, StartsWith}
use Rattle.ob_check_laws.proofs.Bases.{part_fits}
use Rattle.ob_check_laws.proofs.Guards.{record_named}
use Rattle.ob_check_laws.proofs.Forms.{unary_fits, chain_fits, every_fits, either_fits}
use Rattle.ob_check_laws.proofs.Rules.{there_is, if_some, starts_before, starts_reads}
use Rattle.ob_types.specs.Solid.{IsSolid}
use Rattle.ob_check_laws.proofs.Solid.{array_cells}
use Rattle.ob_check_laws.proofs.Suiting.{never, nothing, some_same, closed_suits, basic_suits, elements_suit, text_suits, char_basic}
use Rattle.ob_check_laws.specs.Formed.{ExprFits, IndexesFit, IsPassed}

-- ---- values of operands

pub number_fits : (names : Names) (v : Operand) (x : TypedExpr) → number_of v ≡ Some x → OperandFits names v → ExprFits names x
number_fits names (operand.Value basic.Integer y) x h g = subst (ExprFits names) (some_same y x h) g
number_fits names (operand.Value basic.Byte y) x h g = subst (ExprFits names) (some_same y x h) g
number_fits names (operand.Value basic.Boolean y) x h g = nothing x h
number_fits names (operand.Value basic.Char y) x h g = nothing x h
number_fits names (operand.Text t) x h g = nothing x h
number_fits names (operand.Place t d) x h g = nothing x h

pub truth_fits : (names : Names) (v : Operand) (x : TypedExpr) → truth_of v ≡ Some x → OperandFits names v → ExprFits names x
truth_fits names (operand.Value basic.Boolean y) x h g = subst (ExprFits names) (some_same y x h) g
truth_fits names (operand.Value basic.Integer y) x h g = nothing x h
truth_fits names (operand.Value basic.Byte y) x h g = nothing x h
truth_fits names (operand.Value basic.Char y) x h g = nothing x h
truth_fits names (operand.Text t) x h g = nothing x h
truth_fits names (operand.Place t d) x h g = nothing x h

only_fits : (names : Names) (t : List ℕ) (x : TypedExpr) → only_character t ≡ Some x → ExprFits names x
only_fits names [] x h = nothing x h
only_fits names (c ∷ []) x h = subst (ExprFits names) (some_same _ x h) tt
only_fits names (c ∷ d ∷ cs) x h = nothing x h

pub character_fits : (names : Names) (v : Operand) (x : TypedExpr) → character_of v ≡ Some x → OperandFits names v → ExprFits names x
character_fits names (operand.Value basic.Char y) x h g = subst (ExprFits names) (some_same y x h) g
character_fits names (operand.Value basic.Integer y) x h g = nothing x h
character_fits names (operand.Value basic.Byte y) x h g = nothing x h
character_fits names (operand.Value basic.Boolean y) x h g = nothing x h
character_fits names (operand.Text t) x h g = only_fits names t x h
character_fits names (operand.Place t d) x h g = nothing x h

byte_fits : (names : Names) (line : ℕ) (v : Operand) (x : TypedExpr) → byte_of line v ≡ Some x → OperandFits names v → ExprFits names x
byte_fits names line (operand.Value basic.Byte y) x h g = subst (ExprFits names) (some_same y x h) g
byte_fits names line (operand.Value basic.Integer y) x h g = subst (ExprFits names) (some_same _ x h) (unary_fits names one.Byte line y g)
byte_fits names line (operand.Value basic.Boolean y) x h g = nothing x h
byte_fits names line (operand.Value basic.Char y) x h g = nothing x h
byte_fits names line (operand.Text t) x h g = nothing x h
byte_fits names line (operand.Place t d) x h g = nothing x h

pub value_fits : (names : Names) (b : Basic) (line : ℕ) (v : Operand) (x : TypedExpr) → value_for b line v ≡ Some x → OperandFits names v → ExprFits names x
value_fits names basic.Integer line v x h g = number_fits names v x h g
value_fits names basic.Boolean line v x h g = truth_fits names v x h g
value_fits names basic.Char line v x h g = character_fits names v x h g
value_fits names basic.Byte line v x h g = byte_fits names line v x h g

ordinal_fits : (names : Names) (v : Operand) (x : TypedExpr) → ordinal_of v ≡ Some x → OperandFits names v → ExprFits names x
ordinal_fits names (operand.Value basic.Char y) x h g = subst (ExprFits names) (some_same y x h) g
ordinal_fits names (operand.Value basic.Boolean y) x h g = subst (ExprFits names) (some_same y x h) g
ordinal_fits names (operand.Value basic.Integer y) x h g = nothing x h
ordinal_fits names (operand.Value basic.Byte y) x h g = nothing x h
ordinal_fits names (operand.Text t) x h g = only_fits names t x h
ordinal_fits names (operand.Place t d) x h g = nothing x h

-- ---- constants and variables

pub constant_fits : (names : Names) (c : Constant) → OperandFits names (operand_of_constant c)
constant_fits names (constant.Integer n) = tt
constant_fits names (constant.Boolean b) = tt
constant_fits names (constant.Char c) = tt
constant_fits names (constant.Text t) = tt

pub variable_operand : (names : Names) (t : ObType) (d : Designator) → IndexesFit names d → Suits t (object_of names d) → IsSolid t → OperandFits names (operand_of_variable t d)
unfolding operand_of_variable block.hidden-the_row-ObType-0 denote.Hole.Carrier.hidden block.shown-the_row-ObType-0 denote.Hole.Carrier.shown out-ObType denote.Hole.Carrier.out
variable_operand names (OfBasic b) d h g k = (h, basic_suits b (object_of names d) g)
variable_operand names (Array' n p (more_of-ObType x end_of-ObType)) d h g k = (h, g, k)
variable_operand names (Open' p (more_of-ObType x end_of-ObType)) d h g k = (h, g, k)
variable_operand names (Record r) d h g k = (h, g, k)

-- ---- joining

abbrev pub JoinedFits : Names → Joined → Type 0
JoinedFits names (joined.One v) = OperandFits names v
JoinedFits names (joined.Numbers x steps) = ExprFits names x × OperationListFits names steps
JoinedFits names (joined.Truths xs) = ExprListFits names xs

operations_more : (names : Names) (os : List Operation) (o : Operation) → OperationListFits names os → ExprFits names o.operand → OperationListFits names (os ++ o ∷ [])
operations_more names [] o h g = (g, tt)
operations_more names (x ∷ os) o h g = (h.0, operations_more names os o h.1 g)

exprs_more : (names : Names) (es : List TypedExpr) (e : TypedExpr) → ExprListFits names es → ExprFits names e → ExprListFits names (es ++ e ∷ [])
exprs_more names [] e h g = (g, tt)
exprs_more names (x ∷ es) e h g = (h.0, exprs_more names es e h.1 g)

number_joined : (names : Names) (op : Operator) (line : ℕ) (v : Joined) (y : TypedExpr) (j : Joined) → gives (with_number op line v y) j → JoinedFits names v → ExprFits names y → JoinedFits names j
unfolding with_number
number_joined names op line (joined.One v) y j h g k =
    subst (JoinedFits names) h.2 (number_fits names v h.0 (there_is (number_of v) code.Types h.0 h.1) g, (k, tt))
number_joined names op line (joined.Numbers x steps) y j h g k =
    subst (JoinedFits names) h (g.0, operations_more names steps (operation op line y) g.1 k)
number_joined names op line (joined.Truths xs) y j h g k = absurd h

truth_joined : (names : Names) (v : Joined) (y : TypedExpr) (j : Joined) → gives (with_truth v y) j → JoinedFits names v → ExprFits names y → JoinedFits names j
unfolding with_truth
truth_joined names (joined.One v) y j h g k =
    subst (JoinedFits names) h.2 (truth_fits names v h.0 (there_is (truth_of v) code.Types h.0 h.1) g, (k, tt))
truth_joined names (joined.Numbers x steps) y j h g k = absurd h
truth_joined names (joined.Truths xs) y j h g k = subst (JoinedFits names) h (exprs_more names xs y g k)

pub operand_joined : (names : Names) (how : Joining) (line : ℕ) (v : Joined) (w : Operand) (j : Joined) → gives (with_operand how line v w) j → JoinedFits names v → OperandFits names w → JoinedFits names j
unfolding with_operand
operand_joined names (joining.Numbers op) line v w j h g k =
    number_joined names op line v h.0 j h.2 g (number_fits names w h.0 (there_is (number_of w) code.Types h.0 h.1) k)
operand_joined names joining.Truths line v w j h g k =
    truth_joined names v h.0 j h.2 g (truth_fits names w h.0 (there_is (truth_of w) code.Types h.0 h.1) k)

pub sum_fits : (names : Names) (j : Joined) → JoinedFits names j → OperandFits names (sum_of j)
sum_fits names (joined.One v) h = h
sum_fits names (joined.Numbers x steps) h = chain_fits names x steps h.0 h.1
sum_fits names (joined.Truths xs) h = either_fits names xs h

pub product_fits : (names : Names) (j : Joined) → JoinedFits names j → OperandFits names (product_of j)
product_fits names (joined.One v) h = h
product_fits names (joined.Numbers x steps) h = chain_fits names x steps h.0 h.1
product_fits names (joined.Truths xs) h = every_fits names xs h

sign_fits : (names : Names) (s : Sign) (line : ℕ) (x : TypedExpr) → ExprFits names x → ExprFits names (sign_of s line x)
sign_fits names sign.Plus line x h = h
sign_fits names sign.Minus line x h = unary_fits names one.Negative line x h

pub signed_fits : (names : Names) (s : Option (Sign × Span)) (v w : Operand) → gives (signed s v) w → OperandFits names v → OperandFits names w
unfolding signed
signed_fits names None v w h g = subst (OperandFits names) h g
signed_fits names (Some p) v w h g =
    subst (OperandFits names) h.2 (sign_fits names p.0 p.1.line h.0 (number_fits names v h.0 (there_is (number_of v) code.Types h.0 h.1) g))

pub negated_fits : (names : Names) (line : ℕ) (v w : Operand) → gives (negated line v) w → OperandFits names v → OperandFits names w
unfolding negated
negated_fits names line v w h g =
    subst (OperandFits names) h.2 (unary_fits names one.Not line h.0 (truth_fits names v h.0 (there_is (truth_of v) code.Types h.0 h.1) g))

-- ---- functions

unary_is : (names : Names) (b : Basic) (op : UnaryOperator) (line : ℕ) (o : Option TypedExpr) (w : Operand) → unary b op line o ≡ Some w → ((x : TypedExpr) → o ≡ Some x → ExprFits names x) → OperandFits names w
unary_is names b op line None w h g = nothing w h
unary_is names b op line (Some x) w h g = subst (OperandFits names) (some_same _ w h) (unary_fits names op line x (g x refl))

length_fits : (names : Names) (alone : Bool) (v w : Operand) → length_of alone v ≡ Some w → OperandFits names v → OperandFits names w
length_fits names alone (operand.Value b x) w h g = nothing w h
length_fits names alone (operand.Text t) w h g = nothing w h
length_fits names false (operand.Place t d) w h g = nothing w h
length_fits names true (operand.Place t d) w h g =
    let k = if_some (is_array t) (operand.Value basic.Integer (typed.Length d)) w h in
    subst (OperandFits names) k.1 (g.0, array_cells t (object_of names d) k.0 g.1 g.2)

pub one_fits : (names : Names) (f : Function) (line : ℕ) (alone : Bool) (v w : Operand) → one_of f line alone v ≡ Some w → OperandFits names v → OperandFits names w
one_fits names function.Abs line alone v w h g = unary_is names basic.Integer one.Absolute line (number_of v) w h (λ x e. number_fits names v x e g)
one_fits names function.Odd line alone v w h g = unary_is names basic.Boolean one.Odd line (number_of v) w h (λ x e. number_fits names v x e g)
one_fits names function.Ord line alone v w h g = unary_is names basic.Integer one.Ordinal line (ordinal_of v) w h (λ x e. ordinal_fits names v x e g)
one_fits names function.Chr line alone v w h g = unary_is names basic.Char one.Character line (number_of v) w h (λ x e. number_fits names v x e g)
one_fits names function.Len line alone v w h g = length_fits names alone v w h g
one_fits names function.Lsl line alone v w h g = nothing w h
one_fits names function.Asr line alone v w h g = nothing w h
one_fits names function.Ror line alone v w h g = nothing w h

pub two_fits : (names : Names) (f : Function) (line : ℕ) (v w x : Operand) → gives (two_of f line v w) x → OperandFits names v → OperandFits names w → OperandFits names x
unfolding two_of
two_fits names f line v w x h g k =
    let a = h.2 in
    let b = a.2 in
    subst (OperandFits names) b.2
    (chain_fits names a.0 _ (number_fits names v a.0 (there_is (number_of v) code.Parameters a.0 a.1) g)
    (number_fits names w b.0 (there_is (number_of w) code.Parameters b.0 b.1) k, tt))

-- ---- strings that become variables

-- what a string's variable is, where it is there already, and where it is one more
abbrev Stands : Names → Variables → List ℕ → ℕ → Option ℕ → Type 0
Stands names vs t n o =
    (slice_get names.variables (number_or o (length vs)) ≡ Some (module_variable.Text t n)) × StartsWith names.variables vs

string_stands : (names : Names) (vs : Variables) (t : List ℕ) (n : ℕ) (o : Option ℕ) → string_at vs t n ≡ o → StartsWith names.variables (with_more o vs (module_variable.Text t n)) → Stands names vs t n o
string_stands names vs t n (Some i) there h = (ap (λ l. slice_get l i) h.1 ∙ string_reads vs h.0 t n i there, h)
string_stands names vs t n None there h = (starts_reads names.variables vs (module_variable.Text t n) h, starts_before names.variables vs _ h)

text_variable_fits : (names : Names) (vs : Variables) (t : List ℕ) (n : ℕ) (p : Designator × Variables) → gives (text_variable vs t n) p → StartsWith names.variables p.1 → (IndexesFit names p.0 × (object_of names p.0 ≡ Some (Of (shape.Array n shape.Basic)))) × StartsWith names.variables vs
unfolding text_variable
text_variable_fits names vs t n p h s =
    let q = subst (λ x. StartsWith names.variables x.1) (sym h.1) s in (
      subst (λ x. IndexesFit names x.0 × (object_of names x.0 ≡ Some (Of (shape.Array n shape.Basic)))) h.1 (tt, ap module_object (string_stands names vs t n (string_at vs t n) refl q).0),
      (string_stands names vs t n (string_at vs t n) refl q).1,
    )

array_elements : (n : ℕ) (s : Shape) → elements_in (Some (Of (shape.Array n s))) ≡ Some s
unfolding Rattle.ob_mean.specs.declared.shape.Shape.TheBlock.hidden-the_row-Shape-0 denote.Hole.Carrier.hidden
array_elements n s = refl

pub place_fits : (names : Names) (vs : Variables) (v : Operand) (p : Designator × Variables) → gives (text_place vs v) p → StartsWith names.variables p.1 → (OperandFits names v → IndexesFit names p.0 × IsText (object_of names p.0)) × StartsWith names.variables vs
unfolding text_place
place_fits names vs (operand.Text t) p h s =
    let k = text_variable_fits names vs t (length t + 1) p h s in
    (λ g. (k.0.0, ap elements_in k.0.1 ∙ array_elements (length t + 1) shape.Basic), k.1)
place_fits names vs (operand.Place t d) p h s = (
  λ g. subst (λ x. IndexesFit names x.0 × IsText (object_of names x.0)) h.1 (g.0, text_suits t (object_of names d) h.0 g.1),
  subst (λ x. StartsWith names.variables x.1) (sym h.1) s,
)
place_fits names vs (operand.Value b x) p h s = absurd h

-- ---- relations

-- an operand, where the variables begin with these
abbrev pub TypedFits : Names → Variables → Operand × Variables → Type 0
TypedFits names vs p = StartsWith names.variables p.1 → OperandFits names p.0 × StartsWith names.variables vs

compared_fits : (names : Names) (r : Relation) (line : ℕ) (x y : TypedExpr) → ExprFits names x → ExprFits names y → OperandFits names (compared r line x y)
compared_fits names r line x y h g = chain_fits names x _ h (g, tt)

-- what is made of two operands
abbrev pub JoinFits : Names → Variables → Operand → Operand → Operand × Variables → Type 0
JoinFits names vs v w p =
    StartsWith names.variables p.1 → (OperandFits names v → OperandFits names w → OperandFits names p.0) × StartsWith names.variables vs

texts_fit : (names : Names) (r : Relation) (vs : Variables) (v w : Operand) (p : Operand × Variables) → gives (texts_related r vs v w) p → JoinFits names vs v w p
unfolding texts_related
texts_fit names r vs v w p h s =
    let q = h.2 in
    let t = subst (λ x. StartsWith names.variables x.1) (sym q.2) s in
    let b = place_fits names h.0.1 w q.0 q.1 t in
    let a = place_fits names vs v h.0 h.1 b.1 in
    (λ g k. subst (λ x. OperandFits names x.0) q.2 ((a.0 g).0, (b.0 k).0, (a.0 g).1, (b.0 k).1), a.1)

characters_fit : (names : Names) (r : Relation) (line : ℕ) (v w x : Operand) → gives (characters_related r line v w) x → OperandFits names v → OperandFits names w → OperandFits names x
unfolding characters_related
characters_fit names r line v w x h g k =
    let b = h.2 in
    subst (OperandFits names) b.2
    (compared_fits names r line h.0 b.0 (character_fits names v h.0 (there_is (character_of v) code.Types h.0 h.1) g)
    (character_fits names w b.0 (there_is (character_of w) code.Types b.0 b.1) k))

-- an operand with the variables that there were
kept : (names : Names) (vs : Variables) (v w o : Operand) (p : Operand × Variables) → (o, vs) ≡ p → (OperandFits names v → OperandFits names w → OperandFits names o) → JoinFits names vs v w p
kept names vs v w o p e h s = (λ g k. subst (λ x. OperandFits names x.0) e (h g k), subst (λ x. StartsWith names.variables x.1) (sym e) s)

pub related_fits : (names : Names) (r : Relation) (line : ℕ) (vs : Variables) (v w : Operand) (p : Operand × Variables) → gives (related r line vs v w) p → JoinFits names vs v w p
unfolding related values_related
related_fits names r line vs (operand.Value b x) (operand.Value c y) p h =
    kept names vs (operand.Value b x) (operand.Value c y) h.0 p h.2 (λ g k. subst (OperandFits names) h.1.1 (compared_fits names r line x y g k))
related_fits names r line vs (operand.Value b x) (operand.Text t) p h =
    kept names vs (operand.Value b x) (operand.Text t) h.0 p h.2 (λ g k. characters_fit names r line (operand.Value b x) (operand.Text t) h.0 h.1 g k)
related_fits names r line vs (operand.Text t) (operand.Value c y) p h =
    kept names vs (operand.Text t) (operand.Value c y) h.0 p h.2 (λ g k. characters_fit names r line (operand.Text t) (operand.Value c y) h.0 h.1 g k)
related_fits names r line vs (operand.Value b x) (operand.Place t d) p h = absurd h
related_fits names r line vs (operand.Place t d) (operand.Value c y) p h = absurd h
related_fits names r line vs (operand.Text t) (operand.Text u) p h = texts_fit names r vs (operand.Text t) (operand.Text u) p h
related_fits names r line vs (operand.Text t) (operand.Place u e) p h = texts_fit names r vs (operand.Text t) (operand.Place u e) p h
related_fits names r line vs (operand.Place t d) (operand.Text u) p h = texts_fit names r vs (operand.Place t d) (operand.Text u) p h
related_fits names r line vs (operand.Place t d) (operand.Place u e) p h = texts_fit names r vs (operand.Place t d) (operand.Place u e) p h

-- ---- what is passed

abbrev pub PassedFits : Names → Variables → FormalKind → ObType → Argument × Variables → Type 0
PassedFits names vs k formal p = StartsWith names.variables p.1 → IsPassed names p.0 (parameter_of k formal) × StartsWith names.variables vs

-- the same where something has to fit
abbrev pub PassedIf : Type 0 → Names → Variables → FormalKind → ObType → Argument × Variables → Type 0
PassedIf What names vs k formal p = StartsWith names.variables p.1 → (What → IsPassed names p.0 (parameter_of k formal)) × StartsWith names.variables vs

elements_are : (e t : ObType) → has_elements e t ≡ true → element_of t ≡ Some e
unfolding block.hidden-the_row-ObType-0 denote.Hole.Carrier.hidden block.shown-the_row-ObType-0 denote.Hole.Carrier.shown out-ObType denote.Hole.Carrier.out
elements_are e (OfBasic b) h = never h
elements_are e (Array' n p (more_of-ObType x end_of-ObType)) h = ap Some (sym (same_true e x h))
elements_are e (Open' p (more_of-ObType x end_of-ObType)) h = ap Some (sym (same_true e x h))
elements_are e (Record r) h = never h

-- a variable of the same type, which is no open array
same_place : (names : Names) (formal t : ObType) (d : Designator) (a : Argument) → is_open formal ≡ false → cond (same formal t) (Some (argument.Place d)) None ≡ Some a → IndexesFit names d → Suits t (object_of names d) → (argument.Place d ≡ a) × IndexesFit names d × (object_of names d ≡ Some (Of (shape_of formal)))
same_place names formal t d a o h g s =
    let k = if_some (same formal t) (argument.Place d) a h in
    let e = same_true formal t k.0 in
    (k.1, g, closed_suits t (object_of names d) (ap is_open (sym e) ∙ o) s ∙ ap (λ x. Some (Of (shape_of x))) (sym e))

-- the part that is passed of a variable
is_passed : (o : Option Designator) (a : Argument) → option_map (λ part. argument.Place part) o ≡ Some a → (part : Designator) × (o ≡ Some part) × (argument.Place part ≡ a)
is_passed None a h = nothing a h
is_passed (Some part) a h = (part, refl, some_same (argument.Place part) a h)

-- what a VAR parameter of record type names
told_passed : (names : Names) (formal t : ObType) (d : Designator) (told : Bool) (a : Argument) → is_record formal ≡ true → record_passed kind.Variable formal t d told ≡ Some a → IndexesFit names d → Suits t (object_of names d) → TellsRight t told (is_told names d) → IsPassed names a (parameter.Extended (shape_of formal))
told_passed names formal t d told a r h g s k = by (levels_to formal t) refl h
  where
    by : (o : Option ℕ) → levels_to formal t ≡ o → option_map (λ levels. named_record told t d levels) o ≡ Some a → IsPassed names a (parameter.Extended (shape_of formal))
    by None e f = nothing a f
    by (Some levels) e f = subst (λ x. IsPassed names x (parameter.Extended (shape_of formal))) (some_same _ a f) (record_named names formal t d told levels e r g s k)

variable_is : (names : Names) (formal t : ObType) (d : Designator) (told : Bool) (a : Argument) → variable_passed kind.Variable formal t d told ≡ Some a → IndexesFit names d → Suits t (object_of names d) → TellsRight t told (is_told names d) → IsPassed names a (parameter_of kind.Variable formal)
unfolding variable_passed block.hidden-the_row-ObType-0 denote.Hole.Carrier.hidden block.shown-the_row-ObType-0 denote.Hole.Carrier.shown out-ObType denote.Hole.Carrier.out
variable_is names (OfBasic b) t d told a h g s w =
    let k = same_place names (OfBasic b) t d a refl h g s in subst (λ x. IsPassed names x (parameter_of kind.Variable (OfBasic b))) k.0 (k.1, k.2)
variable_is names (Array' n p (more_of-ObType x end_of-ObType)) t d told a h g s w =
    let k = same_place names (Array n x) t d a refl h g s in subst (λ y. IsPassed names y (parameter_of kind.Variable (Array n x))) k.0 (k.1, k.2)
variable_is names (Open' p (more_of-ObType x end_of-ObType)) t d told a h g s w =
    let k = if_some (has_elements x t) (argument.Open d) a h in
    subst (λ y. IsPassed names y (parameter_of kind.Variable (Open x))) k.1 (g, elements_suit t x (object_of names d) (elements_are x t k.0) s)
variable_is names (Record r) t d told a h g s w = told_passed names (Record r) t d told a refl h g s w

-- a structured value
abbrev IsStructure : ObType → Type 0
IsStructure (OfBasic b) = ⊥
IsStructure (Array' n p e) = Unit {0}
IsStructure (Open' p e) = Unit {0}
IsStructure (Record r) = Unit {0}

value_is : (names : Names) (formal t : ObType) (d : Designator) (told : Bool) (a : Argument) → IsStructure formal → variable_passed kind.Value formal t d told ≡ Some a → IndexesFit names d → Suits t (object_of names d) → IsPassed names a (parameter_of kind.Value formal)
unfolding variable_passed block.hidden-the_row-ObType-0 denote.Hole.Carrier.hidden block.shown-the_row-ObType-0 denote.Hole.Carrier.shown out-ObType denote.Hole.Carrier.out
value_is names (OfBasic b) t d told a w h g s = absurd w
value_is names (Array' n p (more_of-ObType x end_of-ObType)) t d told a w h g s =
    let k = same_place names (Array n x) t d a refl h g s in subst (λ y. IsPassed names y (parameter_of kind.Value (Array n x))) k.0 (k.1, k.2)
value_is names (Open' p (more_of-ObType x end_of-ObType)) t d told a w h g s =
    let k = if_some (has_elements x t) (argument.Open d) a h in
    subst (λ y. IsPassed names y (parameter_of kind.Value (Open x))) k.1 (g, elements_suit t x (object_of names d) (elements_are x t k.0) s)
value_is names (Record r) t d told a w h g s =
    let p = is_passed (part_as (Record r) t d) a h in
    let k = part_fits names (Record r) t d p.0 p.1 g s in
    subst (λ y. IsPassed names y (parameter_of kind.Value (Record r))) p.2 (k.0, closed_suits (Record r) (object_of names p.0) refl k.1)

pub variable_argument_fits : (names : Names) (formal : ObType) (at : Selected) (p : Argument × Variables) → gives (variable_argument kind.Variable formal at) p → PassedIf (IndexesFit names at.1 × Suits at.0 (object_of names at.1) × TellsRight at.0 at.3 (is_told names at.1)) names at.2 kind.Variable formal p
unfolding variable_argument
variable_argument_fits names formal at p h s = (
  λ g. subst (λ x. IsPassed names x.0 (parameter_of kind.Variable formal)) h.2 (variable_is names formal at.0 at.1 at.3 h.0 (there_is (variable_passed kind.Variable formal at.0 at.1 at.3) code.Parameters h.0 h.1) g.0 g.1 g.2),
  subst (λ x. StartsWith names.variables x.1) (sym h.2) s,
)

value_argument_fits : (names : Names) (formal : ObType) (at : Selected) (p : Argument × Variables) → IsStructure formal → gives (variable_argument kind.Value formal at) p → PassedIf (IndexesFit names at.1 × Suits at.0 (object_of names at.1)) names at.2 kind.Value formal p
unfolding variable_argument
value_argument_fits names formal at p w h s = (
  λ g. subst (λ x. IsPassed names x.0 (parameter_of kind.Value formal)) h.2 (value_is names formal at.0 at.1 at.3 h.0 w (there_is (variable_passed kind.Value formal at.0 at.1 at.3) code.Parameters h.0 h.1) g.0 g.1),
  subst (λ x. StartsWith names.variables x.1) (sym h.2) s,
)

text_passed_fits : (names : Names) (vs : Variables) (formal : ObType) (t : List ℕ) (p : Argument × Variables) → gives (text_passed vs formal t) p → PassedFits names vs kind.Value formal p
unfolding text_passed fixed_text block.hidden-the_row-ObType-0 denote.Hole.Carrier.hidden block.shown-the_row-ObType-0 denote.Hole.Carrier.shown out-ObType denote.Hole.Carrier.out
text_passed_fits names vs (OfBasic b) t p h s = absurd h
text_passed_fits names vs (Array' n w (more_of-ObType x end_of-ObType)) t p h s =
    let q = h.1.1 in
    let k = text_variable_fits names vs t n q.0 q.1 (subst (λ y. StartsWith names.variables y.1) (sym q.2) s) in (
      subst (λ y. IsPassed names y.0 (parameter_of kind.Value (Array n x))) q.2 (k.0.0, k.0.1 ∙ ap (λ y. Some (Of (shape.Array n y))) (sym (char_basic x h.0))),
      k.1,
    )
text_passed_fits names vs (Open' w (more_of-ObType x end_of-ObType)) t p h s =
    let q = h.1 in
    let k = text_variable_fits names vs t (length t + 1) q.0 q.1 (subst (λ y. StartsWith names.variables y.1) (sym q.2) s) in (
      subst (λ y. IsPassed names y.0 (parameter_of kind.Value (Open x))) q.2 (k.0.0, ap elements_in k.0.1 ∙ array_elements (length t + 1) shape.Basic ∙ ap Some (sym (char_basic x h.0))),
      k.1,
    )
text_passed_fits names vs (Record r) t p h s = absurd h

structure_fits : (names : Names) (vs : Variables) (formal : ObType) (alone : Bool) (v : Operand) (p : Argument × Variables) → IsStructure formal → gives (structure_passed vs formal alone v) p → PassedIf (OperandFits names v) names vs kind.Value formal p
unfolding structure_passed
structure_fits names vs formal alone (operand.Value b x) p w h s = absurd h
structure_fits names vs formal alone (operand.Text t) p w h s = let k = text_passed_fits names vs formal t p h s in (λ g. k.0, k.1)
structure_fits names vs formal alone (operand.Place t d) p w h s = let k = value_argument_fits names formal (t, d, vs, false) p w h.1 s in (λ g. k.0 (g.0, g.1), k.1)

pub value_passed_fits : (names : Names) (vs : Variables) (formal : ObType) (line : ℕ) (alone : Bool) (v : Operand) (p : Argument × Variables) → gives (value_passed vs formal line alone v) p → PassedIf (OperandFits names v) names vs kind.Value formal p
unfolding value_passed block.hidden-the_row-ObType-0 denote.Hole.Carrier.hidden block.shown-the_row-ObType-0 denote.Hole.Carrier.shown out-ObType denote.Hole.Carrier.out
value_passed_fits names vs (OfBasic b) line alone v p h s = (
  λ g. subst (λ y. IsPassed names y.0 (parameter_of kind.Value (OfBasic b))) h.2 (value_fits names b line v h.0 (there_is (value_for b line v) code.Types h.0 h.1) g),
  subst (λ x. StartsWith names.variables x.1) (sym h.2) s,
)
value_passed_fits names vs (Array' n w (more_of-ObType x end_of-ObType)) line alone v p h s = structure_fits names vs (Array n x) alone v p tt h s
value_passed_fits names vs (Open' w (more_of-ObType x end_of-ObType)) line alone v p h s = structure_fits names vs (Open x) alone v p tt h s
value_passed_fits names vs (Record r) line alone v p h s = structure_fits names vs (Record r) alone v p tt h s
