-- To be believed.
-- Expressions, variables that are written, and actual parameters (Wirth, The Programming Language Oberon, Oberon-07). The
-- number says how many more constructs may nest. The variables of the module grow by the strings that are passed and compared, from left to right.
use Rattle.std.specs.Prelude.{ℕ, zero, suc, List, [], ◌∷◌, ◌++◌, Bool, Option, Some, None, is_some}
use Rattle.ob_check_scope.specs.declared.rule.RuleCode.TheVariants as code
use Rattle.ob_scan.specs.declared.token.Span.{Span}
use Rattle.ob_tree.specs.declared.tree.Expr.{Expr, out-Expr}
use Rattle.ob_tree.specs.declared.tree.Qualident.{Qualident}
use Rattle.ob_tree.specs.declared.tree.Related.{Related, out-Related}
use Rattle.ob_tree.specs.declared.tree.Relation.{Relation}
use Rattle.ob_tree.specs.declared.tree.Simple.{Simple, out-Simple}
use Rattle.ob_tree.specs.declared.tree.AddedTerm.{AddedTerm, out-AddedTerm}
use Rattle.ob_tree.specs.declared.tree.Term.{Term, out-Term}
use Rattle.ob_tree.specs.declared.tree.NextFactor.{NextFactor, out-NextFactor}
use Rattle.ob_tree.specs.declared.tree.Factor.{Factor, out-Factor}
use Rattle.ob_tree.specs.declared.tree.Designator.{Designator as Written, out-Designator}
use Rattle.ob_tree.specs.declared.tree.Selector.{Selector}
use Rattle.ob_tree.specs.declared.tree.Factor.TheOpen.{Factor-F, Related-F}
use Rattle.ob_tree.specs.FirstToken.{first_of}
use Rattle.ob_types.specs.declared.exports.Formal.{Formal}
use Rattle.ob_types.specs.declared.exports.FormalKind.{FormalKind}
use Rattle.ob_types.specs.declared.exports.FormalKind.TheVariants as kind
use Rattle.ob_types.specs.declared.structure.Basic.{Basic}
use Rattle.ob_types.specs.declared.structure.Basic.TheVariants as basic
use Rattle.ob_types.specs.declared.structure.ObType.{ObType}
use Rattle.ob_mean.specs.declared.expression.Argument.{Argument}
use Rattle.ob_mean.specs.declared.expression.Callee.{Callee}
use Rattle.ob_mean.specs.declared.expression.Designator.TheVariants as designator
use Rattle.ob_mean.specs.declared.expression.TypedExpr.{TypedExpr}
use Rattle.ob_mean.specs.declared.expression.TypedExpr.TheVariants as typed
use Rattle.ob_check_scope.specs.declared.predeclared.Function.{Function}
use Rattle.ob_check_scope.specs.declared.scope.Scope.{Scope}
use Rattle.ob_check_const.specs.Constants.{FactorLayer, RelatedLayer}
use Rattle.ob_check_scope.specs.Imports.{Modules}
use Rattle.ob_check_scope.specs.Rule.{Rule, Given, Breaks, Then, Needs, there, through}
use Rattle.ob_check_operand.specs.declared.operand.Operand.{Operand}
use Rattle.ob_check_operand.specs.declared.operand.Operand.TheVariants as operand
use Rattle.ob_check_operand.specs.declared.joining.Joined.{Joined}
use Rattle.ob_check_operand.specs.declared.joining.Joined.TheVariants as joined
use Rattle.ob_check_operand.specs.Operands.{Variables, number_of, truth_of, value_for, truth_number, operand_of_constant, operand_of_variable}
use Rattle.ob_check_operand.specs.Joining.{add_joining, mul_joining, may_join, with_operand, sum_of, product_of, signed, negated}
use Rattle.ob_check_operand.specs.Relations.{relation_of, may_relate, related}
use Rattle.ob_check_operand.specs.Functions.{takes, shift_of, one_of, two_of}
use Rattle.ob_check_operand.specs.Selecting.{Selected, selected, indexed, guarded, tested}
use Rattle.ob_check_operand.specs.Named.{Meant, Callable, Writable}
use Rattle.ob_check_operand.specs.Named as meaning
use Rattle.ob_check_operand.specs.Names.{read_at, written_at, called_at}
use Rattle.ob_check_operand.specs.Passing.{variable_argument, value_passed}
use Rattle.ob_check_expr.specs.Alone.{LoneVariable, alone, guard_in, lone_variable, lone_sum}

-- ---- expressions

abbrev pub Typed : Type 0
Typed = Operand × Variables

abbrev pub Joining : Type 0
Joining = Joined × Variables

abbrev pub Inner : Type 1
Inner = Variables → Expr → Rule Typed

module _ (inner : Variables → Expr → Rule Typed) (ms : Modules) (s : Scope) where
  -- what a name stands for
  unfoldable pub meant_rule : Meant → Variables → Rule Typed
  meant_rule (meaning.Constant c) vs = Given (operand_of_constant c, vs)
  meant_rule meaning.InputDone vs = Given (operand.Value basic.Boolean typed.InputDone, vs)
  meant_rule (meaning.Variable t v told xs) vs =
      Then (through (selected inner ms s) (t, designator.Whole v, vs, told) xs) (λ p. Given (operand_of_variable p.0 p.1, p.2))

  -- a variable that is read
  unfoldable pub variable_rule : Meant → Variables → Rule Selected
  variable_rule (meaning.Constant c) vs = Breaks code.Types
  variable_rule meaning.InputDone vs = Breaks code.Types
  variable_rule (meaning.Variable t v told xs) vs = through (selected inner ms s) (t, designator.Whole v, vs, told) xs

  -- a variable that is written
  unfoldable pub target_rule : Variables → Written → Rule Selected
  target_rule vs d =
      Then (written_at ms s d) (λ w. through (selected inner ms s) (w.0, designator.Whole w.1, vs, w.2) w.3)

  -- a guard behind it that is read as actual parameters
  unfoldable pub after_guard : Option Qualident → Selected → Rule Selected
  after_guard None at = Given at
  after_guard (Some q) at = guarded ms s at q

  -- a variable alone, guarded or not, that is read
  unfoldable pub lone_read : Variables → LoneVariable → Rule Selected
  lone_read vs x = Then (read_at ms s x.0) (λ m. Then (variable_rule m vs) (λ p. after_guard x.1 p))

  -- and one that is written
  unfoldable pub lone_written : Variables → LoneVariable → Rule Selected
  lone_written vs x = Then (target_rule vs x.0) (λ p. after_guard x.1 p)

-- Functions that are declared before any module, of one value and of two. Their actual parameters are judged from left to
-- right, and their number after them.
module _ (inner : Variables → Expr → Rule Typed) where
  -- after two values nothing may stand
  unfoldable pub two_taken : Function → ℕ → Operand → Typed → List Expr → Rule Typed
  two_taken f line v w [] = Then (two_of f line v w.0) (λ x. Given (x, w.1))
  two_taken f line v w (c ∷ cs) = Breaks code.Parameters

  -- after the first value, which may be written as a variable alone, a shift takes another
  unfoldable pub one_taken : Function → ℕ → Bool → Typed → List Expr → Rule Typed
  one_taken f line alone v [] = Then (there (one_of f line alone v.0) code.Parameters) (λ x. Given (x, v.1))
  one_taken f line alone v (b ∷ bs) =
      Needs (is_some (shift_of f)) code.Parameters (Then (inner v.1 b) (λ w. two_taken f line v.0 w bs))

  unfoldable pub predeclared_rule : Function → ℕ → Variables → List Expr → Rule Typed
  predeclared_rule f line vs [] = Breaks code.Parameters
  predeclared_rule f line vs (a ∷ bs) =
      Then (inner vs a) (λ v. Needs (takes f (is_some (alone a)) v.0) code.Parameters (one_taken f line (is_some (alone a)) v bs))

-- what is passed so far, and the formal parameters that are left
abbrev pub Passing : Type 0
Passing = (List Argument) × Variables × (List Formal)

-- actual parameters for formal ones, as many, from left to right
module _ (passed : Formal → Variables → Expr → Rule (Argument × Variables)) where
  unfoldable pub one_passed : List Argument → Variables → List Formal → Expr → Rule Passing
  one_passed so_far vs [] e = Breaks code.Parameters
  one_passed so_far vs (f ∷ fs) e = Then (passed f vs e) (λ a. Given (so_far ++ a.0 ∷ [], a.1, fs))

  abbrev pub next_passed : Passing → Expr → Rule Passing
  next_passed p e = one_passed p.0 p.1 p.2 e

  -- no formal parameter may be left
  unfoldable pub none_left : List Argument → Variables → List Formal → Rule ((List Argument) × Variables)
  none_left so_far vs [] = Given (so_far, vs)
  none_left so_far vs (f ∷ fs) = Breaks code.Parameters

  unfoldable pub all_passed : Variables → List Formal → List Expr → Rule ((List Argument) × Variables)
  all_passed vs formals es = Then (through next_passed ([], vs, formals) es) (λ p. none_left p.0 p.1 p.2)

  -- a function of this module or an imported one
  unfoldable pub function_rule : Option Basic → Callee → List Formal → ℕ → Variables → List Expr → Rule Typed
  function_rule None f formals line vs es = Breaks code.Parameters
  function_rule (Some b) f formals line vs es =
      Then (all_passed vs formals es) (λ p. Given (operand.Value b (typed.Function f line p.0), p.1))

module _ (inner : Variables → Expr → Rule Typed) (passed : Formal → Variables → Expr → Rule (Argument × Variables)) where
  -- a call that gives a value
  unfoldable pub call_rule : Callable → ℕ → Variables → List Expr → Rule Typed
  call_rule (meaning.Procedure p f) line vs es = function_rule passed p.result f p.formals line vs es
  call_rule (meaning.Function f) line vs es = predeclared_rule inner f line vs es
  call_rule (meaning.Proper p) line vs es = Breaks code.Parameters
  call_rule (meaning.Input i) line vs es = Breaks code.Parameters
  call_rule (meaning.Output o) line vs es = Breaks code.Parameters

module _ (inner : Variables → Expr → Rule Typed) (deeper : Variables → Factor → Rule Typed) (passed : Formal → Variables → Expr → Rule (Argument × Variables)) (ms : Modules) (s : Scope) where
  -- what looks like a call, where it is a guarded variable and where it is none
  unfoldable pub call_or_guard : Variables → Written → List Expr → Option Qualident → Rule Typed
  call_or_guard vs d es None =
      Then (called_at ms s d) (λ f. call_rule inner passed f (out-Designator d).name.span.line vs es)
  call_or_guard vs d es (Some q) =
      Then (lone_read inner ms s vs (d, Some q)) (λ p. Given (operand_of_variable p.0 p.1, p.2))

  abbrev pub factor_layer : Variables → FactorLayer → Rule Typed
  factor_layer vs (Factor-F.Integer n span) = Given (operand.Value basic.Integer (typed.Constant n), vs)
  factor_layer vs (Factor-F.Text t span) = Given (operand.Text t, vs)
  factor_layer vs (Factor-F.Truth b span) = Given (operand.Value basic.Boolean (typed.Constant (truth_number b)), vs)
  factor_layer vs (Factor-F.Value d) = Then (read_at ms s d) (λ m. meant_rule inner ms s m vs)
  factor_layer vs (Factor-F.Call d es) = call_or_guard vs d es (guard_in s d es)
  factor_layer vs (Factor-F.Parens span e) = inner vs e
  factor_layer vs (Factor-F.Not span f) = Then (deeper vs f) (λ v. Then (negated span.line v.0) (λ x. Given (x, v.1)))

  unfoldable pub factor_rule : Variables → Factor → Rule Typed
  factor_rule vs f = factor_layer vs (out-Factor f)

  -- one factor more: what stands before the operator is judged before what stands after it
  unfoldable pub next_factor : Joining → NextFactor → Rule Joining
  next_factor v x =
      Needs (may_join (mul_joining (out-NextFactor x).operator) v.0) code.Types (
      Then (factor_rule v.1 (out-NextFactor x).factor) (λ w.
      Then (with_operand (mul_joining (out-NextFactor x).operator) (out-NextFactor x).span.line v.0 w.0) (λ j. Given (j, w.1))))

  unfoldable pub term_rule : Variables → Term → Rule Typed
  term_rule vs t =
      Then (factor_rule vs (out-Term t).first) (λ v.
      Then (through next_factor (joined.One v.0, v.1) (out-Term t).others) (λ j. Given (product_of j.0, j.1)))

  -- one term more
  unfoldable pub added_term : Joining → AddedTerm → Rule Joining
  added_term v x =
      Needs (may_join (add_joining (out-AddedTerm x).operator) v.0) code.Types (
      Then (term_rule v.1 (out-AddedTerm x).term) (λ w.
      Then (with_operand (add_joining (out-AddedTerm x).operator) (out-AddedTerm x).span.line v.0 w.0) (λ j. Given (j, w.1))))

  unfoldable pub simple_rule : Variables → Simple → Rule Typed
  simple_rule vs x =
      Then (term_rule vs (out-Simple x).first) (λ v.
      Then (signed (out-Simple x).sign v.0) (λ w.
      Then (through added_term (joined.One w, v.1) (out-Simple x).others) (λ j. Given (sum_of j.0, j.1))))

  -- a relation of what stands before it to another sum
  unfoldable pub relation_rule : Typed → Relation → Span → Simple → Rule Typed
  relation_rule v r span x =
      Needs (may_relate (relation_of r) v.0) code.Types (
      Then (simple_rule v.1 x) (λ w. related (relation_of r) span.line w.1 v.0 w.0))

  -- IS: of a variable alone
  unfoldable pub test_rule : Variables → Simple → Option LoneVariable → Qualident → Rule Typed
  test_rule vs x None q = Then (simple_rule vs x) (λ v. Breaks code.Types)
  test_rule vs x (Some d) q = Then (lone_read inner ms s vs d) (λ p. tested ms s p q)

  -- what stands to the right of a sum
  abbrev pub related_layer : Variables → Simple → RelatedLayer → Rule Typed
  related_layer vs x (Related-F.By r span y) = Then (simple_rule vs x) (λ v. relation_rule v r span y)
  related_layer vs x (Related-F.Is span q) = test_rule vs x (lone_sum s x) q

  unfoldable pub related_rule : Variables → Simple → Option Related → Rule Typed
  related_rule vs x None = simple_rule vs x
  related_rule vs x (Some r) = related_layer vs x (out-Related r)

  unfoldable pub expr_rule : Variables → Expr → Rule Typed
  expr_rule vs e = related_rule vs (out-Expr e).left (out-Expr e).right

-- an actual parameter: a variable for VAR, else an expression
module _ (target : Variables → LoneVariable → Rule Selected) where
  unfoldable pub variable_actual : ObType → Variables → Option LoneVariable → Rule (Argument × Variables)
  variable_actual formal vs None = Breaks code.ReadOnly
  variable_actual formal vs (Some d) = Then (target vs d) (λ p. variable_argument kind.Variable formal p)

module _ (expr : Variables → Expr → Rule Typed) (s : Scope) where
  unfoldable pub value_actual : ObType → Variables → Expr → Rule (Argument × Variables)
  value_actual formal vs e =
      Then (expr vs e) (λ v. value_passed v.1 formal (first_of e).line (is_some (lone_variable s e)) v.0)

module _ (expr : Variables → Expr → Rule Typed) (target : Variables → LoneVariable → Rule Selected) (s : Scope) where
  unfoldable pub actual_rule : FormalKind → ObType → Variables → Expr → Rule (Argument × Variables)
  actual_rule kind.Variable formal vs e = variable_actual target formal vs (lone_variable s e)
  actual_rule kind.Value formal vs e = value_actual expr s formal vs e

-- ---- what nests: indexes and parentheses, `~`, and lists of actual parameters. What nests deeper has no size
unfoldable mutual
  pub inner_at : Modules → Scope → ℕ → Variables → Expr → Rule Typed
  inner_at ms s zero vs e = Breaks code.Size
  inner_at ms s (suc n) vs e = expr_rule (inner_at ms s n) (deeper_at ms s n) (passed_at ms s n) ms s vs e

  pub deeper_at : Modules → Scope → ℕ → Variables → Factor → Rule Typed
  deeper_at ms s zero vs f = Breaks code.Size
  deeper_at ms s (suc n) vs f = factor_rule (inner_at ms s n) (deeper_at ms s n) (passed_at ms s n) ms s vs f

  pub passed_at : Modules → Scope → ℕ → Formal → Variables → Expr → Rule (Argument × Variables)
  passed_at ms s zero f vs e = Breaks code.Size
  passed_at ms s (suc n) f vs e =
      actual_rule (expr_rule (inner_at ms s n) (deeper_at ms s n) (passed_at ms s n) ms s) (lone_written (inner_at ms s n) ms s) s
      f.kind f.of vs e

-- ---- at a place where so many more constructs may nest

-- an expression and a variable, as the rules of an actual parameter take them
abbrev pub expr_within : Modules → Scope → ℕ → Variables → Expr → Rule Typed
expr_within ms s n = expr_rule (inner_at ms s n) (deeper_at ms s n) (passed_at ms s n) ms s

abbrev pub target_within : Modules → Scope → ℕ → Variables → LoneVariable → Rule Selected
target_within ms s n = lone_written (inner_at ms s n) ms s

abbrev pub variable_at : Modules → Scope → ℕ → Meant → Variables → Rule Selected
variable_at ms s n = variable_rule (inner_at ms s n) ms s

abbrev pub after_guard_at : Modules → Scope → ℕ → Option Qualident → Selected → Rule Selected
after_guard_at ms s n = after_guard (inner_at ms s n) ms s

abbrev pub lone_read_at : Modules → Scope → ℕ → Variables → LoneVariable → Rule Selected
lone_read_at ms s n = lone_read (inner_at ms s n) ms s

abbrev pub next_passed_at : Modules → Scope → ℕ → Passing → Expr → Rule Passing
next_passed_at ms s n = next_passed (passed_at ms s n)

abbrev pub selected_at : Modules → Scope → ℕ → Selected → Selector → Rule Selected
selected_at ms s n = selected (inner_at ms s n) ms s

abbrev pub indexed_at : Modules → Scope → ℕ → Selected → Expr → Rule Selected
indexed_at ms s n = indexed (inner_at ms s n)

abbrev pub meant_at : Modules → Scope → ℕ → Meant → Variables → Rule Typed
meant_at ms s n = meant_rule (inner_at ms s n) ms s

abbrev pub one_taken_at : Modules → Scope → ℕ → Function → ℕ → Bool → Typed → List Expr → Rule Typed
one_taken_at ms s n = one_taken (inner_at ms s n)

abbrev pub predeclared_at : Modules → Scope → ℕ → Function → ℕ → Variables → List Expr → Rule Typed
predeclared_at ms s n = predeclared_rule (inner_at ms s n)

abbrev pub function_at : Modules → Scope → ℕ → Option Basic → Callee → List Formal → ℕ → Variables → List Expr → Rule Typed
function_at ms s n = function_rule (passed_at ms s n)

abbrev pub call_at : Modules → Scope → ℕ → Callable → ℕ → Variables → List Expr → Rule Typed
call_at ms s n = call_rule (inner_at ms s n) (passed_at ms s n)

abbrev pub factor_at : Modules → Scope → ℕ → Variables → Factor → Rule Typed
factor_at ms s n = factor_rule (inner_at ms s n) (deeper_at ms s n) (passed_at ms s n) ms s

abbrev pub next_factor_at : Modules → Scope → ℕ → Joining → NextFactor → Rule Joining
next_factor_at ms s n = next_factor (inner_at ms s n) (deeper_at ms s n) (passed_at ms s n) ms s

abbrev pub term_at : Modules → Scope → ℕ → Variables → Term → Rule Typed
term_at ms s n = term_rule (inner_at ms s n) (deeper_at ms s n) (passed_at ms s n) ms s

abbrev pub added_term_at : Modules → Scope → ℕ → Joining → AddedTerm → Rule Joining
added_term_at ms s n = added_term (inner_at ms s n) (deeper_at ms s n) (passed_at ms s n) ms s

abbrev pub simple_at : Modules → Scope → ℕ → Variables → Simple → Rule Typed
simple_at ms s n = simple_rule (inner_at ms s n) (deeper_at ms s n) (passed_at ms s n) ms s

abbrev pub relation_at : Modules → Scope → ℕ → Typed → Relation → Span → Simple → Rule Typed
relation_at ms s n = relation_rule (inner_at ms s n) (deeper_at ms s n) (passed_at ms s n) ms s

abbrev pub test_at : Modules → Scope → ℕ → Variables → Simple → Option LoneVariable → Qualident → Rule Typed
test_at ms s n = test_rule (inner_at ms s n) (deeper_at ms s n) (passed_at ms s n) ms s

abbrev pub call_or_guard_at : Modules → Scope → ℕ → Variables → Written → List Expr → Option Qualident → Rule Typed
call_or_guard_at ms s n = call_or_guard (inner_at ms s n) (deeper_at ms s n) (passed_at ms s n) ms s

-- an expression
unfoldable pub expr_at : Modules → Scope → ℕ → Variables → Expr → Rule Typed
expr_at ms s n vs e = expr_rule (inner_at ms s n) (deeper_at ms s n) (passed_at ms s n) ms s vs e

-- a variable that may be written, with its type
unfoldable pub target_at : Modules → Scope → ℕ → Variables → Written → Rule Selected
target_at ms s n vs d = target_rule (inner_at ms s n) ms s vs d

-- the actual parameters of a call
unfoldable pub actuals_at : Modules → Scope → ℕ → List Formal → Variables → List Expr → Rule ((List Argument) × Variables)
actuals_at ms s n formals vs es = all_passed (passed_at ms s n) vs formals es

-- a value of basic type
abbrev pub is_value : Operand → Option (Basic × TypedExpr)
is_value (operand.Value b x) = Some (b, x)
is_value (operand.Text t) = None
is_value (operand.Place t d) = None

unfoldable pub value_at : Modules → Scope → ℕ → Variables → Expr → Rule (Basic × TypedExpr × Variables)
value_at ms s n vs e =
    Then (expr_at ms s n vs e) (λ v. Then (there (is_value v.0) code.Types) (λ p. Given (p.0, p.1, v.1)))

-- A value for a variable of a basic type. A trap names the line of its first token.
unfoldable pub value_for_at : Modules → Scope → ℕ → Basic → Variables → Expr → Rule (TypedExpr × Variables)
value_for_at ms s n b vs e =
    Then (expr_at ms s n vs e) (λ v. Then (there (value_for b (first_of e).line v.0) code.Types) (λ x. Given (x, v.1)))

-- a truth value, on which a statement depends
unfoldable pub guard_at : Modules → Scope → ℕ → Variables → Expr → Rule (TypedExpr × Variables)
guard_at ms s n vs e =
    Then (expr_at ms s n vs e) (λ v. Then (there (truth_of v.0) code.Types) (λ x. Given (x, v.1)))

-- what a predeclared procedure takes: a number
unfoldable pub number_at : Modules → Scope → ℕ → Variables → Expr → Rule (TypedExpr × Variables)
number_at ms s n vs e =
    Then (expr_at ms s n vs e) (λ v. Then (there (number_of v.0) code.Parameters) (λ x. Given (x, v.1)))

-- or a truth value
unfoldable pub truth_at : Modules → Scope → ℕ → Variables → Expr → Rule (TypedExpr × Variables)
truth_at ms s n vs e =
    Then (expr_at ms s n vs e) (λ v. Then (there (truth_of v.0) code.Parameters) (λ x. Given (x, v.1)))
