-- The variables of a module only grow: each rule adds strings of few cells after those that there are.
use Rattle.std.proofs.Common.{◌≡◌, ℕ, zero, suc, ◌+◌, ◌++◌, length, nat_le, Bool, true, List, [], ◌∷◌, Option, Some, None, is_some, refl, sym, ap, ◌∙◌, subst, false}
use Rattle.ob_tree.specs.declared.tree.Branch.{Branch, out-Branch}
use Rattle.ob_tree.specs.declared.tree.Case.{Case, out-Case}
use Rattle.ob_tree.specs.declared.tree.Expr.{Expr, out-Expr}
use Rattle.ob_tree.specs.declared.tree.ForHead.{ForHead}
use Rattle.ob_tree.specs.declared.tree.LabelRange.{LabelRange}
use Rattle.ob_tree.specs.declared.tree.Statement.{Statement, out-Statement}
use Rattle.ob_tree.specs.declared.tree.Statement.TheOpen.{Statement-F}
use Rattle.ob_tree.specs.declared.tree.Related.{Related, out-Related}
use Rattle.ob_tree.specs.declared.tree.Simple.{Simple, out-Simple}
use Rattle.ob_tree.specs.declared.tree.AddedTerm.{AddedTerm, out-AddedTerm}
use Rattle.ob_tree.specs.declared.tree.Term.{Term, out-Term}
use Rattle.ob_tree.specs.declared.tree.NextFactor.{NextFactor, out-NextFactor}
use Rattle.ob_tree.specs.declared.tree.Factor.{Factor, out-Factor}
use Rattle.ob_tree.specs.declared.tree.Designator.{Designator as Written, out-Designator}
use Rattle.ob_tree.specs.declared.tree.Selector.{Selector, out-Selector}
use Rattle.ob_tree.specs.declared.tree.Factor.TheOpen.{Factor-F, Selector-F, Related-F}
use Rattle.ob_types.specs.declared.exports.Formal.{Formal}
use Rattle.ob_types.specs.declared.exports.FormalKind.{FormalKind}
use Rattle.ob_types.specs.declared.exports.FormalKind.TheVariants as kind
use Rattle.ob_types.specs.declared.structure.Basic.{Basic}
use Rattle.ob_types.specs.declared.structure.ObType.{ObType, end_of-ObType, more_of-ObType, out-ObType}
use Rattle.ob_types.specs.declared.structure.ObType.TheVariants.{Basic as OfBasic, Array', Open', Record}
use Rattle.ob_types.specs.declared.structure.ObType.TheBlock as block
use Rattle.ob_mean.specs.declared.expression.Argument.{Argument}
use Rattle.ob_mean.specs.declared.expression.Callee.{Callee}
use Rattle.ob_mean.specs.declared.expression.Designator.{Designator}
use Rattle.ob_mean.specs.declared.expression.Designator.TheVariants as designator
use Rattle.ob_mean.specs.declared.expression.TypedExpr.{TypedExpr}
use Rattle.ob_mean.specs.declared.module.ModuleVariable.TheVariants as module_variable
use Rattle.ob_mean.specs.declared.operator.Relation.{Relation}
use Rattle.ob_mean.specs.declared.statement.Action.{Action}
use Rattle.ob_mean.specs.declared.statement.Adjustment.{Adjustment}
use Rattle.ob_mean.specs.declared.statement.Adjustment.TheVariants as adjustment
use Rattle.ob_mean.specs.declared.statement.Reader.{Reader}
use Rattle.ob_mean.specs.declared.statement.Reader.TheVariants as reader
use Rattle.ob_mean.specs.declared.statement.Branch.{Branch as TypedBranch}
use Rattle.ob_mean.specs.declared.statement.ForHead.{ForHead as TypedHead}
use Rattle.ob_mean.specs.declared.statement.TypedStatement.{TypedStatement}
use Rattle.ob_mean.specs.WellFormed.{VariablesFit}
use Rattle.ob_check_scope.specs.declared.predeclared.Function.{Function}
use Rattle.ob_check_scope.specs.declared.predeclared.InputName.{InputName}
use Rattle.ob_check_scope.specs.declared.predeclared.InputName.TheVariants as in_name
use Rattle.ob_check_scope.specs.declared.predeclared.OutputName.{OutputName}
use Rattle.ob_check_scope.specs.declared.predeclared.OutputName.TheVariants as out_name
use Rattle.ob_check_scope.specs.declared.predeclared.ProperProcedure.{ProperProcedure}
use Rattle.ob_check_scope.specs.declared.predeclared.ProperProcedure.TheVariants as procedure
use Rattle.ob_check_scope.specs.declared.scope.Scope.{Scope}
use Rattle.ob_check_const.specs.Constants.{FactorLayer, SelectorLayer, RelatedLayer}
use Rattle.ob_check_scope.specs.Imports.{Modules}
use Rattle.ob_check_scope.specs.Rule.{Rule, gives}
use Rattle.ob_check_operand.specs.declared.operand.Operand.{Operand}
use Rattle.ob_check_operand.specs.declared.operand.Operand.TheVariants as operand
use Rattle.ob_check_operand.specs.declared.joining.Joined.TheVariants as joined
use Rattle.ob_check_operand.specs.Operands.{Variables, text_variable, text_place}
use Rattle.ob_check_strings.specs.Strings.{string_at, with_more}
use Rattle.ob_check_operand.specs.Relations.{texts_related, related, relation_of}
use Rattle.ob_check_operand.specs.Passing.{variable_argument, fixed_text, text_passed, structure_passed, value_passed}
use Rattle.ob_check_operand.specs.Selecting.{Selected, guarded, tested, selected, indexed, selector_layer}
use Rattle.ob_check_expr.specs.Alone.{LoneVariable, alone, guard_in, lone_sum, lone_variable}
use Rattle.ob_tree.specs.declared.tree.Qualident.{Qualident}
use Rattle.ob_tree.specs.declared.tree.Relation.{Relation as Written'}
use Rattle.ob_scan.specs.declared.token.Span.{Span}
use Rattle.ob_check_operand.specs.Named.{Meant, Callable}
use Rattle.ob_check_operand.specs.Named as meaning
use Rattle.ob_check_expr.specs.Expressions.{Typed, Joining, Passing, meant_rule, variable_rule, after_guard, lone_read, lone_written, call_or_guard, relation_rule, test_rule, target_rule, two_taken, one_taken, predeclared_rule, one_passed, next_passed, none_left, all_passed, function_rule, call_rule, factor_layer, factor_rule, next_factor, term_rule, added_term, simple_rule, related_layer, related_rule, expr_rule, variable_actual, value_actual, actual_rule, inner_at, deeper_at, passed_at, expr_at, target_at, actuals_at, value_at, value_for_at, guard_at, number_at, truth_at}
use Rattle.ob_check_stmt.specs.Assignments.{basic_of, assigned, assignment}
use Rattle.ob_check_stmt.specs.Calls.{call_with, procedure_call, call_of, call}
use Rattle.ob_check_stmt.specs.StandardCalls.{none_left as no_actual_left, without_actuals, number_inside, truth_inside, place_at, scalar_at, read_call, in_call, out_char, out_string, out_width, out_int, out_call, adjusted_by, adjusted, asserted, predeclared_call}
use Rattle.ob_check_stmt.specs.Statements.{StatementLayer, for_head, optional, next_branch, branches, if_rule, while_rule, Arms, arm_of, case_of, next_case, arms_of, case_rule, repeat_rule, for_rule, statement_layer, statement_of, next_statement, statements_at}
use Rattle.ob_check_laws.specs.Fitting.{StartsWith}
use Rattle.ob_check_laws.proofs.Rules.{joined_none, joined_thrice, through_keeps}
use Rattle.ob_check_laws.proofs.Sizes.{text_few, variables_join}

-- ---- lists that grow

pub same : {A : Type 0} (xs : List A) → StartsWith xs xs
same xs = ([], sym (joined_none xs))

pub longer : {A : Type 0} (zs ys xs : List A) → StartsWith zs ys → StartsWith ys xs → StartsWith zs xs
longer zs ys xs g h = (h.0 ++ g.0, g.1 ∙ ap (λ l. l ++ g.0) h.1 ∙ joined_thrice xs h.0 g.0)

pub part : {A : Type 0} (all xs ys : List A) → StartsWith all (xs ++ ys) → StartsWith all xs
part all xs ys h = (ys ++ h.0, h.1 ∙ joined_thrice xs ys h.0)

pub one_longer : {A : Type 0} (xs : List A) (x : A) → StartsWith (xs ++ x ∷ []) xs
one_longer xs x = (x ∷ [], refl)

-- Variables begin with others, and what follows are strings of few cells.
abbrev pub Extends : Variables → Variables → Type 0
Extends all first = (rest : Variables) × (all ≡ first ++ rest) × VariablesFit rest

pub begins_with : (all first : Variables) → Extends all first → StartsWith all first
begins_with all first h = (h.0, h.1)

pub unchanged : (vs : Variables) → Extends vs vs
unchanged vs = ([], sym (joined_none vs), tt)

pub further : (zs ys xs : Variables) → Extends zs ys → Extends ys xs → Extends zs xs
further zs ys xs g h = (h.0 ++ g.0, g.1 ∙ ap (λ l. l ++ g.0) h.1 ∙ joined_thrice xs h.0 g.0, variables_join h.0 g.0 h.2 g.2)

-- what is given has the variables that there were
from : {X : Type 0} (vs : Variables) (x : X) (p : X × Variables) → (x, vs) ≡ p → Extends p.1 vs
from vs x p e = subst (λ q. Extends q.1 vs) e (unchanged vs)

-- what is given has the variables that something gave
after : {X : Type 0} (start vs : Variables) (x : X) (p : X × Variables) → (x, vs) ≡ p → Extends vs start → Extends p.1 start
after start vs x p e h = subst (λ q. Extends q.1 start) e h

-- ---- operands

kept_or_more : (vs : Variables) (t : List ℕ) (n : ℕ) (o : Option ℕ) → nat_le n 2147483647 ≡ true → Extends (with_more o vs (module_variable.Text t n)) vs
kept_or_more vs t n (Some i) few = unchanged vs
kept_or_more vs t n None few = (module_variable.Text t n ∷ [], refl, (text_few n t few, tt))

text_variable_grows : (vs : Variables) (t : List ℕ) (n : ℕ) (p : Designator × Variables) → gives (text_variable vs t n) p → Extends p.1 vs
unfolding text_variable
text_variable_grows vs t n p h = after vs _ _ p h.1 (kept_or_more vs t n (string_at vs t n) h.0)

place_grows : (vs : Variables) (v : Operand) (p : Designator × Variables) → gives (text_place vs v) p → Extends p.1 vs
unfolding text_place
place_grows vs (operand.Text t) p h = text_variable_grows vs t (length t + 1) p h
place_grows vs (operand.Place t d) p h = from vs d p h.1
place_grows vs (operand.Value b x) p h = absurd h

texts_grow : (r : Relation) (vs : Variables) (v w : Operand) (p : Operand × Variables) → gives (texts_related r vs v w) p → Extends p.1 vs
unfolding texts_related
texts_grow r vs v w p h =
    after vs _ _ p ((h.2).2) (further (h.2).0.1 h.0.1 vs (place_grows h.0.1 w (h.2).0 (h.2).1) (place_grows vs v h.0 h.1))

related_grows : (r : Relation) (line : ℕ) (vs : Variables) (v w : Operand) (p : Operand × Variables) → gives (related r line vs v w) p → Extends p.1 vs
unfolding related
related_grows r line vs (operand.Value b x) (operand.Value c y) p h = from vs _ p h.2
related_grows r line vs (operand.Value b x) (operand.Text t) p h = from vs _ p h.2
related_grows r line vs (operand.Text t) (operand.Value c y) p h = from vs _ p h.2
related_grows r line vs (operand.Value b x) (operand.Place t d) p h = absurd h
related_grows r line vs (operand.Place t d) (operand.Value c y) p h = absurd h
related_grows r line vs (operand.Text t) (operand.Text u) p h = texts_grow r vs (operand.Text t) (operand.Text u) p h
related_grows r line vs (operand.Text t) (operand.Place u e) p h = texts_grow r vs (operand.Text t) (operand.Place u e) p h
related_grows r line vs (operand.Place t d) (operand.Text u) p h = texts_grow r vs (operand.Place t d) (operand.Text u) p h
related_grows r line vs (operand.Place t d) (operand.Place u e) p h = texts_grow r vs (operand.Place t d) (operand.Place u e) p h

argument_grows : (k : FormalKind) (formal : ObType) (at : Selected) (p : Argument × Variables) → gives (variable_argument k formal at) p → Extends p.1 at.2
unfolding variable_argument
argument_grows k formal at p h = from at.2 _ p h.2

text_grows : (vs : Variables) (formal : ObType) (t : List ℕ) (p : Argument × Variables) → gives (text_passed vs formal t) p → Extends p.1 vs
unfolding text_passed fixed_text block.hidden-the_row-ObType-0 denote.Hole.Carrier.hidden block.shown-the_row-ObType-0 denote.Hole.Carrier.shown out-ObType denote.Hole.Carrier.out
text_grows vs (OfBasic b) t p h = absurd h
text_grows vs (Array' n w (more_of-ObType x end_of-ObType)) t p h = let q = h.1.1 in after vs _ _ p q.2 (text_variable_grows vs t n q.0 q.1)
text_grows vs (Open' w (more_of-ObType x end_of-ObType)) t p h = let q = h.1 in after vs _ _ p q.2 (text_variable_grows vs t (length t + 1) q.0 q.1)
text_grows vs (Record r) t p h = absurd h

structure_grows : (vs : Variables) (formal : ObType) (only : Bool) (v : Operand) (p : Argument × Variables) → gives (structure_passed vs formal only v) p → Extends p.1 vs
unfolding structure_passed
structure_grows vs formal only (operand.Value b x) p h = absurd h
structure_grows vs formal only (operand.Text t) p h = text_grows vs formal t p h
structure_grows vs formal only (operand.Place t d) p h = argument_grows kind.Value formal (t, d, vs, false) p h.1

value_grows : (vs : Variables) (formal : ObType) (line : ℕ) (only : Bool) (v : Operand) (p : Argument × Variables) → gives (value_passed vs formal line only v) p → Extends p.1 vs
unfolding value_passed block.hidden-the_row-ObType-0 denote.Hole.Carrier.hidden block.shown-the_row-ObType-0 denote.Hole.Carrier.shown out-ObType denote.Hole.Carrier.out
value_grows vs (OfBasic b) line only v p h = from vs _ p h.2
value_grows vs (Array' n w (more_of-ObType x end_of-ObType)) line only v p h = structure_grows vs _ only v p h
value_grows vs (Open' w (more_of-ObType x end_of-ObType)) line only v p h = structure_grows vs _ only v p h
value_grows vs (Record r) line only v p h = structure_grows vs (Record r) only v p h

-- ---- expressions

abbrev Inner : (Variables → Expr → Rule Typed) → Type 0
Inner inner = (vs : Variables) (e : Expr) (p : Typed) → gives (inner vs e) p → Extends p.1 vs

abbrev Deeper : (Variables → Factor → Rule Typed) → Type 0
Deeper deeper = (vs : Variables) (f : Factor) (p : Typed) → gives (deeper vs f) p → Extends p.1 vs

abbrev Each : (Formal → Variables → Expr → Rule (Argument × Variables)) → Type 0
Each passed = (f : Formal) (vs : Variables) (e : Expr) (p : Argument × Variables) → gives (passed f vs e) p → Extends p.1 vs

module _ (inner : Variables → Expr → Rule Typed) (grows : Inner inner) where
  indexed_grows : (start : Variables) (at : Selected) (e : Expr) (p : Selected) → gives (indexed inner at e) p → Extends at.2 start → Extends p.2 start
  unfolding indexed
  indexed_grows start at e p h g =
      let v = h.2 in
      subst (λ q. Extends q.2 start) (v.2).2 (further v.0.1 at.2 start (grows at.2 e v.0 v.1) g)

  guarded_grows : (ms : Modules) (s : Scope) (start : Variables) (at : Selected) (q : Qualident) (p : Selected) → gives (guarded ms s at q) p → Extends at.2 start → Extends p.2 start
  unfolding guarded
  guarded_grows ms s start at q p h g = subst (λ x. Extends x.2 start) (h.2).1 g

  selector_grows : (ms : Modules) (s : Scope) (start : Variables) (at : Selected) (l : SelectorLayer) (p : Selected) → gives (selector_layer inner ms s at l) p → Extends at.2 start → Extends p.2 start
  selector_grows ms s start at (Selector-F.Field f) p h g = subst (λ q. Extends q.2 start) h.2 g
  selector_grows ms s start at (Selector-F.Index es) p h g =
      through_keeps (λ q. Extends q.2 start) (indexed inner) (λ a e b k c. indexed_grows start a e b k c) at es p h g
  selector_grows ms s start at (Selector-F.Guard q) p h g = guarded_grows ms s start at q p h g

  selected_grows : (ms : Modules) (s : Scope) (start : Variables) (at : Selected) (x : Selector) (p : Selected) → gives (selected inner ms s at x) p → Extends at.2 start → Extends p.2 start
  unfolding selected
  selected_grows ms s start at x p h g = selector_grows ms s start at (out-Selector x) p h g

  meant_grows : (ms : Modules) (s : Scope) (m : Meant) (vs : Variables) (p : Typed) → gives (meant_rule inner ms s m vs) p → Extends p.1 vs
  unfolding meant_rule
  meant_grows ms s (meaning.Constant c) vs p h = from vs _ p h
  meant_grows ms s meaning.InputDone vs p h = from vs _ p h
  meant_grows ms s (meaning.Variable t v told xs) vs p h =
      after vs _ _ p h.2 (through_keeps (λ q. Extends q.2 vs) (selected inner ms s) (λ a e b k c. selected_grows ms s vs a e b k c) (t, designator.Whole v, vs, told) xs h.0 h.1 (unchanged vs))

  variable_grows : (ms : Modules) (s : Scope) (m : Meant) (vs : Variables) (p : Selected) → gives (variable_rule inner ms s m vs) p → Extends p.2 vs
  unfolding variable_rule
  variable_grows ms s (meaning.Constant c) vs p h = absurd h
  variable_grows ms s meaning.InputDone vs p h = absurd h
  variable_grows ms s (meaning.Variable t v told xs) vs p h =
      through_keeps (λ q. Extends q.2 vs) (selected inner ms s) (λ a e b k c. selected_grows ms s vs a e b k c) (t, designator.Whole v, vs, told) xs p h (unchanged vs)

  after_grows : (ms : Modules) (s : Scope) (start : Variables) (q : Option Qualident) (at p : Selected) → gives (after_guard inner ms s q at) p → Extends at.2 start → Extends p.2 start
  unfolding after_guard
  after_grows ms s start None at p h g = subst (λ x. Extends x.2 start) h g
  after_grows ms s start (Some q) at p h g = guarded_grows ms s start at q p h g

  lone_read_grows : (ms : Modules) (s : Scope) (vs : Variables) (x : LoneVariable) (p : Selected) → gives (lone_read inner ms s vs x) p → Extends p.2 vs
  unfolding lone_read
  lone_read_grows ms s vs x p h = after_grows ms s vs x.1 (h.2).0 p (h.2).2 (variable_grows ms s h.0 vs (h.2).0 (h.2).1)

  target_grows : (ms : Modules) (s : Scope) (vs : Variables) (d : Written) (p : Selected) → gives (target_rule inner ms s vs d) p → Extends p.2 vs
  unfolding target_rule
  target_grows ms s vs d p h =
      through_keeps (λ q. Extends q.2 vs) (selected inner ms s) (λ a e b k c. selected_grows ms s vs a e b k c) (h.0.0, designator.Whole h.0.1, vs, h.0.2) h.0.3 p h.2 (unchanged vs)

  lone_written_grows : (ms : Modules) (s : Scope) (vs : Variables) (x : LoneVariable) (p : Selected) → gives (lone_written inner ms s vs x) p → Extends p.2 vs
  unfolding lone_written
  lone_written_grows ms s vs x p h = after_grows ms s vs x.1 h.0 p h.2 (target_grows ms s vs x.0 h.0 h.1)

  two_taken_grows : (f : Function) (line : ℕ) (v : Operand) (w : Typed) (es : List Expr) (p : Typed) → gives (two_taken inner f line v w es) p → Extends p.1 w.1
  unfolding two_taken
  two_taken_grows f line v w [] p h = from w.1 _ p h.2
  two_taken_grows f line v w (c ∷ cs) p h = absurd h

  one_taken_grows : (f : Function) (line : ℕ) (only : Bool) (v : Typed) (es : List Expr) (p : Typed) → gives (one_taken inner f line only v es) p → Extends p.1 v.1
  unfolding one_taken
  one_taken_grows f line only v [] p h = from v.1 _ p h.2
  one_taken_grows f line only v (b ∷ bs) p h =
      let w = h.1 in further p.1 w.0.1 v.1 (two_taken_grows f line v.0 w.0 bs p w.2) (grows v.1 b w.0 w.1)

  predeclared_grows : (f : Function) (line : ℕ) (vs : Variables) (es : List Expr) (p : Typed) → gives (predeclared_rule inner f line vs es) p → Extends p.1 vs
  unfolding predeclared_rule
  predeclared_grows f line vs [] p h = absurd h
  predeclared_grows f line vs (a ∷ bs) p h = further p.1 h.0.1 vs (one_taken_grows f line (is_some (alone a)) h.0 bs p (h.2).1) (grows vs a h.0 h.1)

module _ (passed : Formal → Variables → Expr → Rule (Argument × Variables)) (grows : Each passed) where
  one_grows : (vs : Variables) (so_far : List Argument) (at : Variables) (fs : List Formal) (e : Expr) (p : Passing) → gives (one_passed passed so_far at fs e) p → Extends at vs → Extends p.1 vs
  unfolding one_passed
  one_grows vs so_far at [] e p h g = absurd h
  one_grows vs so_far at (f ∷ fs) e p h g = subst (λ q. Extends q.1 vs) h.2 (further h.0.1 at vs (grows f at e h.0 h.1) g)

  left_grows : (so_far : List Argument) (at : Variables) (fs : List Formal) (p : (List Argument) × Variables) → gives (none_left passed so_far at fs) p → Extends p.1 at
  unfolding none_left
  left_grows so_far at [] p h = from at _ p h
  left_grows so_far at (f ∷ fs) p h = absurd h

  all_grow : (vs : Variables) (fs : List Formal) (es : List Expr) (p : (List Argument) × Variables) → gives (all_passed passed vs fs es) p → Extends p.1 vs
  unfolding all_passed
  all_grow vs fs es p h =
      further p.1 h.0.1 vs (left_grows h.0.0 h.0.1 h.0.2 p h.2)
      (through_keeps (λ q. Extends q.1 vs) (next_passed passed) (λ a e b k c. one_grows vs a.0 a.1 a.2 e b k c) ([], vs, fs) es h.0 h.1 (unchanged vs))

  function_grows : (r : Option Basic) (f : Callee) (fs : List Formal) (line : ℕ) (vs : Variables) (es : List Expr) (p : Typed) → gives (function_rule passed r f fs line vs es) p → Extends p.1 vs
  unfolding function_rule
  function_grows None f fs line vs es p h = absurd h
  function_grows (Some b) f fs line vs es p h = after vs _ _ p h.2 (all_grow vs fs es h.0 h.1)

module _ (ms : Modules) (s : Scope) (inner : Variables → Expr → Rule Typed) (deeper : Variables → Factor → Rule Typed) (passed : Formal → Variables → Expr → Rule (Argument × Variables)) (inside : Inner inner) (below : Deeper deeper) (each : Each passed) where
  call_grows : (c : Callable) (line : ℕ) (vs : Variables) (es : List Expr) (p : Typed) → gives (call_rule inner passed c line vs es) p → Extends p.1 vs
  unfolding call_rule
  call_grows (meaning.Procedure q f) line vs es p h = function_grows passed each q.result f q.formals line vs es p h
  call_grows (meaning.Function f) line vs es p h = predeclared_grows inner inside f line vs es p h
  call_grows (meaning.Proper q) line vs es p h = absurd h
  call_grows (meaning.Input i) line vs es p h = absurd h
  call_grows (meaning.Output o) line vs es p h = absurd h

  or_guard_grows : (vs : Variables) (d : Written) (es : List Expr) (q : Option Qualident) (p : Typed) → gives (call_or_guard inner deeper passed ms s vs d es q) p → Extends p.1 vs
  unfolding call_or_guard
  or_guard_grows vs d es None p h = call_grows h.0 (out-Designator d).name.span.line vs es p h.2
  or_guard_grows vs d es (Some q) p h = after vs _ _ p h.2 (lone_read_grows inner inside ms s vs (d, Some q) h.0 h.1)

  factor_layer_grows : (vs : Variables) (l : FactorLayer) (p : Typed) → gives (factor_layer inner deeper passed ms s vs l) p → Extends p.1 vs
  factor_layer_grows vs (Factor-F.Integer n span) p h = from vs _ p h
  factor_layer_grows vs (Factor-F.Text t span) p h = from vs _ p h
  factor_layer_grows vs (Factor-F.Truth b span) p h = from vs _ p h
  factor_layer_grows vs (Factor-F.Value d) p h = meant_grows inner inside ms s h.0 vs p h.2
  factor_layer_grows vs (Factor-F.Call d es) p h = or_guard_grows vs d es (guard_in s d es) p h
  factor_layer_grows vs (Factor-F.Parens span e) p h = inside vs e p h
  factor_layer_grows vs (Factor-F.Not span f) p h = after vs _ _ p (h.2).2 (below vs f h.0 h.1)

  factor_grows : (vs : Variables) (f : Factor) (p : Typed) → gives (factor_rule inner deeper passed ms s vs f) p → Extends p.1 vs
  unfolding factor_rule
  factor_grows vs f p h = factor_layer_grows vs (out-Factor f) p h

  next_factor_grows : (vs : Variables) (j : Joining) (x : NextFactor) (k : Joining) → gives (next_factor inner deeper passed ms s j x) k → Extends j.1 vs → Extends k.1 vs
  unfolding next_factor
  next_factor_grows vs j x k needed g = let h = needed.1 in after vs _ _ k (h.2).2 (further h.0.1 j.1 vs (factor_grows j.1 (out-NextFactor x).factor h.0 h.1) g)

  term_grows : (vs : Variables) (x : Term) (p : Typed) → gives (term_rule inner deeper passed ms s vs x) p → Extends p.1 vs
  unfolding term_rule
  term_grows vs x p h =
      after vs _ _ p (h.2).2 (through_keeps (λ q. Extends q.1 vs) (next_factor inner deeper passed ms s) (λ a e b u c. next_factor_grows vs a e b u c) (joined.One h.0.0, h.0.1) (out-Term x).others (h.2).0 (h.2).1
      (factor_grows vs (out-Term x).first h.0 h.1))

  added_term_grows : (vs : Variables) (j : Joining) (x : AddedTerm) (k : Joining) → gives (added_term inner deeper passed ms s j x) k → Extends j.1 vs → Extends k.1 vs
  unfolding added_term
  added_term_grows vs j x k needed g = let h = needed.1 in after vs _ _ k (h.2).2 (further h.0.1 j.1 vs (term_grows j.1 (out-AddedTerm x).term h.0 h.1) g)

  simple_grows : (vs : Variables) (x : Simple) (p : Typed) → gives (simple_rule inner deeper passed ms s vs x) p → Extends p.1 vs
  unfolding simple_rule
  simple_grows vs x p h =
      let w = h.2 in
      after vs _ _ p (w.2).2 (through_keeps (λ q. Extends q.1 vs) (added_term inner deeper passed ms s) (λ a e b u c. added_term_grows vs a e b u c) (joined.One w.0, h.0.1) (out-Simple x).others (w.2).0 (w.2).1
      (term_grows vs (out-Simple x).first h.0 h.1))

  relation_grows : (v : Typed) (r : Written') (span : Span) (x : Simple) (p : Typed) → gives (relation_rule inner deeper passed ms s v r span x) p → Extends p.1 v.1
  unfolding relation_rule
  relation_grows v r span x p needed =
      let h = needed.1 in
      further p.1 h.0.1 v.1 (related_grows (relation_of r) span.line h.0.1 v.0 h.0.0 p h.2) (simple_grows v.1 x h.0 h.1)

  tested_grows : (at : Selected) (q : Qualident) (p : Typed) → gives (tested ms s at q) p → Extends p.1 at.2
  unfolding tested
  tested_grows at q p h = from at.2 _ p (h.1).2

  test_grows : (vs : Variables) (x : Simple) (d : Option LoneVariable) (q : Qualident) (p : Typed) → gives (test_rule inner deeper passed ms s vs x d q) p → Extends p.1 vs
  unfolding test_rule
  test_grows vs x None q p h = absurd h.2
  test_grows vs x (Some d) q p h = further p.1 h.0.2 vs (tested_grows h.0 q p h.2) (lone_read_grows inner inside ms s vs d h.0 h.1)

  related_layer_grows : (vs : Variables) (x : Simple) (l : RelatedLayer) (p : Typed) → gives (related_layer inner deeper passed ms s vs x l) p → Extends p.1 vs
  related_layer_grows vs x (Related-F.By r span y) p h = further p.1 h.0.1 vs (relation_grows h.0 r span y p h.2) (simple_grows vs x h.0 h.1)
  related_layer_grows vs x (Related-F.Is span q) p h = test_grows vs x (lone_sum s x) q p h

  to_right_grows : (vs : Variables) (x : Simple) (r : Option Related) (p : Typed) → gives (related_rule inner deeper passed ms s vs x r) p → Extends p.1 vs
  unfolding related_rule
  to_right_grows vs x None p h = simple_grows vs x p h
  to_right_grows vs x (Some r) p h = related_layer_grows vs x (out-Related r) p h

  expr_grows : (vs : Variables) (e : Expr) (p : Typed) → gives (expr_rule inner deeper passed ms s vs e) p → Extends p.1 vs
  unfolding expr_rule
  expr_grows vs e p h = to_right_grows vs (out-Expr e).left (out-Expr e).right p h

actual_grows : (expr : Variables → Expr → Rule Typed) (target : Variables → LoneVariable → Rule Selected) (s : Scope) → Inner expr → ((vs : Variables) (d : LoneVariable) (p : Selected) → gives (target vs d) p → Extends p.2 vs) → (k : FormalKind) (formal : ObType) (vs : Variables) (e : Expr) (p : Argument × Variables) → gives (actual_rule expr target s k formal vs e) p → Extends p.1 vs
unfolding actual_rule variable_actual value_actual
actual_grows expr target s inside targets kind.Variable formal vs e p h = by (lone_variable s e) h
  where
    by : (o : Option LoneVariable) → gives (variable_actual target formal vs o) p → Extends p.1 vs
    by None k = absurd k
    by (Some d) k = further p.1 k.0.2 vs (argument_grows kind.Variable formal k.0 p k.2) (targets vs d k.0 k.1)
actual_grows expr target s inside targets kind.Value formal vs e p h = further p.1 h.0.1 vs (value_grows h.0.1 formal _ _ h.0.0 p h.2) (inside vs e h.0 h.1)

module _ (ms : Modules) (s : Scope) where
  mutual
    unfolding inner_at deeper_at passed_at

    inner_grows : (n : ℕ) → Inner (inner_at ms s n)
    inner_grows zero vs e p h = absurd h
    inner_grows (suc n) vs e p h = expr_grows ms s (inner_at ms s n) (deeper_at ms s n) (passed_at ms s n) (inner_grows n) (deeper_grows n) (passed_grows n) vs e p h

    deeper_grows : (n : ℕ) → Deeper (deeper_at ms s n)
    deeper_grows zero vs f p h = absurd h
    deeper_grows (suc n) vs f p h = factor_grows ms s (inner_at ms s n) (deeper_at ms s n) (passed_at ms s n) (inner_grows n) (deeper_grows n) (passed_grows n) vs f p h

    passed_grows : (n : ℕ) → Each (passed_at ms s n)
    passed_grows zero f vs e p h = absurd h
    passed_grows (suc n) f vs e p h =
        actual_grows (expr_rule (inner_at ms s n) (deeper_at ms s n) (passed_at ms s n) ms s) (lone_written (inner_at ms s n) ms s) s
        (expr_grows ms s (inner_at ms s n) (deeper_at ms s n) (passed_at ms s n) (inner_grows n) (deeper_grows n) (passed_grows n))
        (lone_written_grows (inner_at ms s n) (inner_grows n) ms s) f.kind f.of vs e p h

  at_grows : (n : ℕ) → Inner (expr_at ms s n)
  unfolding expr_at
  at_grows n vs e p h = expr_grows ms s (inner_at ms s n) (deeper_at ms s n) (passed_at ms s n) (inner_grows n) (deeper_grows n) (passed_grows n) vs e p h

  target_at_grows : (n : ℕ) (vs : Variables) (d : Written) (p : Selected) → gives (target_at ms s n vs d) p → Extends p.2 vs
  unfolding target_at
  target_at_grows n vs d p h = target_grows (inner_at ms s n) (inner_grows n) ms s vs d p h

  actuals_grow : (n : ℕ) (fs : List Formal) (vs : Variables) (es : List Expr) (p : (List Argument) × Variables) → gives (actuals_at ms s n fs vs es) p → Extends p.1 vs
  unfolding actuals_at
  actuals_grow n fs vs es p h = all_grow (passed_at ms s n) (passed_grows n) vs fs es p h

  value_at_grows : (n : ℕ) (vs : Variables) (e : Expr) (p : Basic × TypedExpr × Variables) → gives (value_at ms s n vs e) p → Extends p.2 vs
  unfolding value_at
  value_at_grows n vs e p h = subst (λ q. Extends q.2 vs) (h.2).2 (at_grows n vs e h.0 h.1)

  pub value_for_grows : (n : ℕ) (b : Basic) (vs : Variables) (e : Expr) (p : TypedExpr × Variables) → gives (value_for_at ms s n b vs e) p → Extends p.1 vs
  unfolding value_for_at
  value_for_grows n b vs e p h = after vs _ _ p (h.2).2 (at_grows n vs e h.0 h.1)

  guard_grows : (n : ℕ) (vs : Variables) (e : Expr) (p : TypedExpr × Variables) → gives (guard_at ms s n vs e) p → Extends p.1 vs
  unfolding guard_at
  guard_grows n vs e p h = after vs _ _ p (h.2).2 (at_grows n vs e h.0 h.1)

  number_grows : (n : ℕ) (vs : Variables) (e : Expr) (p : TypedExpr × Variables) → gives (number_inside ms s n vs e) p → Extends p.1 vs
  unfolding number_inside number_at
  number_grows zero vs e p h = absurd h
  number_grows (suc n) vs e p h = after vs _ _ p (h.2).2 (at_grows n vs e h.0 h.1)

  truth_grows : (n : ℕ) (vs : Variables) (e : Expr) (p : TypedExpr × Variables) → gives (truth_inside ms s n vs e) p → Extends p.1 vs
  unfolding truth_inside truth_at
  truth_grows zero vs e p h = absurd h
  truth_grows (suc n) vs e p h = after vs _ _ p (h.2).2 (at_grows n vs e h.0 h.1)

-- ---- actions

module _ (ms : Modules) (s : Scope) (n : ℕ) where
  assigned_grows : (b : Option Basic) (t : ObType) (to : Designator) (vs : Variables) (e : Expr) (p : Action × Variables) → gives (assigned ms s n b t to vs e) p → Extends p.1 vs
  unfolding assigned
  assigned_grows (Some b) t to vs e p h = after vs _ _ p h.2 (value_for_grows ms s n b vs e h.0 h.1)
  assigned_grows None t to vs e p h = after vs _ _ p (h.2).2 (at_grows ms s n vs e h.0 h.1)

  assignment_grows : (vs : Variables) (d : Written) (e : Expr) (p : Action × Variables) → gives (assignment ms s n vs d e) p → Extends p.1 vs
  unfolding assignment
  assignment_grows vs d e p h = further p.1 h.0.2 vs (assigned_grows (basic_of h.0.0) h.0.0 h.0.1 h.0.2 e p h.2) (target_at_grows ms s n vs d h.0 h.1)

  place_at_grows : (vs : Variables) (f : Formal) (e : Expr) (p : Designator × Variables) → gives (place_at ms s n vs f e) p → Extends p.1 vs
  unfolding place_at
  place_at_grows vs f e p h = after vs _ _ p (h.2).2 (passed_grows ms s n f vs e h.0 h.1)

  scalar_grows : (vs : Variables) (b : Basic) (e : Expr) (p : TypedExpr × Variables) → gives (scalar_at ms s n vs b e) p → Extends p.1 vs
  unfolding scalar_at
  scalar_grows vs b e p h = after vs _ _ p (h.2).2 (passed_grows ms s n _ vs e h.0 h.1)

  none_left_grows : (a : Action) (vs : Variables) (es : List Expr) (p : Action × Variables) → gives (no_actual_left a vs es) p → Extends p.1 vs
  unfolding no_actual_left
  none_left_grows a vs [] p h = from vs a p h
  none_left_grows a vs (e ∷ es) p h = absurd h

  without_grows : (a : Action) (vs : Variables) (es : Option (List Expr)) (p : Action × Variables) → gives (without_actuals a vs es) p → Extends p.1 vs
  unfolding without_actuals
  without_grows a vs None p h = from vs a p h
  without_grows a vs (Some es) p h = none_left_grows a vs es p h

  read_grows : (r : Reader) (vs : Variables) (es : Option (List Expr)) (p : Action × Variables) → gives (read_call ms s n r vs es) p → Extends p.1 vs
  unfolding read_call
  read_grows r vs (Some (e ∷ es)) p h = further p.1 h.0.1 vs (none_left_grows _ h.0.1 es p h.2) (place_at_grows vs _ e h.0 h.1)
  read_grows r vs None p h = absurd h
  read_grows r vs (Some []) p h = absurd h

  in_grows : (i : InputName) (vs : Variables) (es : Option (List Expr)) (p : Action × Variables) → gives (in_call ms s n i vs es) p → Extends p.1 vs
  unfolding in_call
  in_grows in_name.Open vs es p h = without_grows _ vs es p h
  in_grows in_name.Char vs es p h = read_grows reader.Char vs es p h
  in_grows in_name.Int vs es p h = read_grows reader.Int vs es p h
  in_grows in_name.String vs es p h = read_grows reader.String vs es p h
  in_grows in_name.Name vs es p h = read_grows reader.Name vs es p h
  in_grows in_name.Done vs es p h = absurd h
  in_grows in_name.Unknown vs es p h = absurd h

  char_grows : (vs : Variables) (es : Option (List Expr)) (p : Action × Variables) → gives (out_char ms s n vs es) p → Extends p.1 vs
  unfolding out_char
  char_grows vs (Some (e ∷ es)) p h = further p.1 h.0.1 vs (none_left_grows _ h.0.1 es p h.2) (scalar_grows vs _ e h.0 h.1)
  char_grows vs None p h = absurd h
  char_grows vs (Some []) p h = absurd h

  string_grows : (vs : Variables) (es : Option (List Expr)) (p : Action × Variables) → gives (out_string ms s n vs es) p → Extends p.1 vs
  unfolding out_string
  string_grows vs (Some (e ∷ es)) p h = further p.1 h.0.1 vs (none_left_grows _ h.0.1 es p h.2) (place_at_grows vs _ e h.0 h.1)
  string_grows vs None p h = absurd h
  string_grows vs (Some []) p h = absurd h

  width_grows : (x : TypedExpr) (vs : Variables) (es : List Expr) (p : Action × Variables) → gives (out_width ms s n x vs es) p → Extends p.1 vs
  unfolding out_width
  width_grows x vs [] p h = absurd h
  width_grows x vs (width ∷ es) p h = further p.1 h.0.1 vs (none_left_grows _ h.0.1 es p h.2) (scalar_grows vs _ width h.0 h.1)

  int_grows : (vs : Variables) (es : Option (List Expr)) (p : Action × Variables) → gives (out_int ms s n vs es) p → Extends p.1 vs
  unfolding out_int
  int_grows vs (Some (e ∷ es)) p h = further p.1 h.0.1 vs (width_grows h.0.0 h.0.1 es p h.2) (scalar_grows vs _ e h.0 h.1)
  int_grows vs None p h = absurd h
  int_grows vs (Some []) p h = absurd h

  out_grows : (o : OutputName) (vs : Variables) (es : Option (List Expr)) (p : Action × Variables) → gives (out_call ms s n o vs es) p → Extends p.1 vs
  unfolding out_call
  out_grows out_name.Open vs es p h = without_grows _ vs es p h
  out_grows out_name.Char vs es p h = char_grows vs es p h
  out_grows out_name.String vs es p h = string_grows vs es p h
  out_grows out_name.Int vs es p h = int_grows vs es p h
  out_grows out_name.Ln vs es p h = without_grows _ vs es p h
  out_grows out_name.Unknown vs es p h = absurd h

  adjusted_by_grows : (a : Adjustment) (d : Designator) (vs : Variables) (es : List Expr) (p : Action × Variables) → gives (adjusted_by ms s n a d vs es) p → Extends p.1 vs
  unfolding adjusted_by
  adjusted_by_grows a d vs [] p h = from vs _ p h
  adjusted_by_grows a d vs (e ∷ es) p h = further p.1 h.0.1 vs (none_left_grows _ h.0.1 es p h.2) (number_grows ms s n vs e h.0 h.1)

  adjusted_grows : (a : Adjustment) (vs : Variables) (es : Option (List Expr)) (p : Action × Variables) → gives (adjusted ms s n a vs es) p → Extends p.1 vs
  unfolding adjusted
  adjusted_grows a vs (Some (v ∷ es)) p h = further p.1 h.0.1 vs (adjusted_by_grows a h.0.0 h.0.1 es p h.2) (place_at_grows vs _ v h.0 h.1)
  adjusted_grows a vs None p h = absurd h
  adjusted_grows a vs (Some []) p h = absurd h

  asserted_grows : (line : ℕ) (vs : Variables) (es : Option (List Expr)) (p : Action × Variables) → gives (asserted ms s n line vs es) p → Extends p.1 vs
  unfolding asserted
  asserted_grows line vs (Some (e ∷ es)) p h = further p.1 h.0.1 vs (none_left_grows _ h.0.1 es p h.2) (truth_grows ms s n vs e h.0 h.1)
  asserted_grows line vs None p h = absurd h
  asserted_grows line vs (Some []) p h = absurd h

  proper_grows : (q : ProperProcedure) (line : ℕ) (vs : Variables) (es : Option (List Expr)) (p : Action × Variables) → gives (predeclared_call ms s n q line vs es) p → Extends p.1 vs
  unfolding predeclared_call
  proper_grows procedure.Inc line vs es p h = adjusted_grows adjustment.Increase vs es p h
  proper_grows procedure.Dec line vs es p h = adjusted_grows adjustment.Decrease vs es p h
  proper_grows procedure.Assert line vs es p h = asserted_grows line vs es p h

  call_with_grows : (to : Callee) (fs : List Formal) (line : ℕ) (vs : Variables) (es : Option (List Expr)) (p : Action × Variables) → gives (call_with ms s n to fs line vs es) p → Extends p.1 vs
  unfolding call_with
  call_with_grows to fs line vs None p h = from vs _ p h.1
  call_with_grows to fs line vs (Some es) p h = after vs _ _ p h.2 (actuals_grow ms s n fs vs es h.0 h.1)

  call_of_grows : (c : Callable) (line : ℕ) (vs : Variables) (es : Option (List Expr)) (p : Action × Variables) → gives (call_of ms s n c line vs es) p → Extends p.1 vs
  unfolding call_of procedure_call
  call_of_grows (meaning.Procedure f to) line vs es p h = call_with_grows to f.formals line vs es p h.1
  call_of_grows (meaning.Function f) line vs es p h = absurd h
  call_of_grows (meaning.Proper q) line vs es p h = proper_grows q line vs es p h
  call_of_grows (meaning.Input i) line vs es p h = in_grows i vs es p h
  call_of_grows (meaning.Output o) line vs es p h = out_grows o vs es p h

  calls_grow : (vs : Variables) (d : Written) (es : Option (List Expr)) (p : Action × Variables) → gives (call ms s n vs d es) p → Extends p.1 vs
  unfolding call
  calls_grow vs d es p h = call_of_grows h.0 (out-Designator d).name.span.line vs es p h.2

-- ---- statements

module _ (ms : Modules) (s : Scope) (n : ℕ) (inner : Variables → List Statement → Rule (List TypedStatement × Variables)) (grows : (vs : Variables) (xs : List Statement) (p : List TypedStatement × Variables) → gives (inner vs xs) p → Extends p.1 vs) where
  pub optional_grows : (vs : Variables) (xs : List Statement) (p : List TypedStatement × Variables) → gives (optional ms s n inner vs xs) p → Extends p.1 vs
  unfolding optional
  optional_grows vs [] p h = from vs _ p h
  optional_grows vs (x ∷ xs) p h = grows vs (x ∷ xs) p h

  branch_grows : (vs : Variables) (before : List TypedBranch × Variables) (b : Branch) (p : List TypedBranch × Variables) → gives (next_branch ms s n inner before b) p → Extends before.1 vs → Extends p.1 vs
  unfolding next_branch
  branch_grows vs before b p h g =
      after vs _ _ p (h.2).2 (further (h.2).0.1 h.0.1 vs (grows h.0.1 (out-Branch b).body (h.2).0 (h.2).1) (further h.0.1 before.1 vs (guard_grows ms s n before.1 (out-Branch b).guard h.0 h.1) g))

  branches_grow : (vs : Variables) (first : Branch) (others : List Branch) (p : List TypedBranch × Variables) → gives (branches ms s n inner vs first others) p → Extends p.1 vs
  unfolding branches
  branches_grow vs first others p h =
      through_keeps (λ q. Extends q.1 vs) (next_branch ms s n inner) (λ a e b k c. branch_grows vs a e b k c) ([], vs) (first ∷ others) p h (unchanged vs)

  case_of_grows : (character : Bool) (vs : Variables) (before : Arms ms s n inner) (ls : List LabelRange) (body : List Statement) (p : Arms ms s n inner) → gives (case_of ms s n inner character before ls body) p → Extends before.2 vs → Extends p.2 vs
  unfolding case_of arm_of
  case_of_grows character vs before [] body p h g = subst (λ q. Extends q.2 vs) h g
  case_of_grows character vs before (r ∷ rs) body p h g =
      subst (λ q. Extends q.2 vs) (h.2).2 (further (h.2).0.1 before.2 vs (grows before.2 body (h.2).0 (h.2).1) g)

  next_case_grows : (character : Bool) (vs : Variables) (before : Arms ms s n inner) (x : Case) (p : Arms ms s n inner) → gives (next_case ms s n inner character before x) p → Extends before.2 vs → Extends p.2 vs
  unfolding next_case
  next_case_grows character vs before x p h g = case_of_grows character vs before (out-Case x).labels (out-Case x).body p h g

  head_grows : (vs : Variables) (head : ForHead) (p : TypedHead × Variables) → gives (for_head ms s n vs head) p → Extends p.1 vs
  unfolding for_head
  head_grows vs head p h =
      let a = h.2 in
      let b = a.2 in
      after vs _ _ p (b.2).2 (further b.0.1 a.0.1 vs (value_for_grows ms s n _ a.0.1 head.last b.0 b.1) (value_for_grows ms s n _ vs head.first a.0 a.1))

  layer_grows : (vs : Variables) (l : StatementLayer) (p : Option TypedStatement × Variables) → gives (statement_layer ms s n inner vs l) p → Extends p.1 vs
  unfolding if_rule while_rule case_rule arms_of repeat_rule for_rule
  layer_grows vs Statement-F.Empty p h = from vs _ p h
  layer_grows vs (Statement-F.Assign d e) p h = after vs _ _ p h.2 (assignment_grows ms s n vs d e h.0 h.1)
  layer_grows vs (Statement-F.Call d actuals) p h = after vs _ _ p h.2 (calls_grow ms s n vs d actuals h.0 h.1)
  layer_grows vs (Statement-F.If first others rest) p h =
      let g = h.1 in
      after vs _ _ p h.2 (after vs _ _ h.0 (g.2).2 (further (g.2).0.1 g.0.1 vs (optional_grows g.0.1 rest (g.2).0 (g.2).1) (branches_grow vs first others g.0 g.1)))
  layer_grows vs (Statement-F.Case span e cases) p h =
      let g = h.1 in
      let a = (g.2).2 in
      after vs _ _ p h.2 (after vs _ _ h.0 a.2 (further a.0.2 g.0.2 vs
      (through_keeps (λ q. Extends q.2 g.0.2) (next_case ms s n inner (g.2).0) (λ b c d f k. next_case_grows (g.2).0 g.0.2 b c d f k) ([], [], g.0.2) cases a.0 a.1 (unchanged g.0.2))
      (value_at_grows ms s n vs e g.0 g.1)))
  layer_grows vs (Statement-F.While first others) p h =
      let g = h.1 in
      after vs _ _ p h.2 (after vs _ _ h.0 g.2 (branches_grow vs first others g.0 g.1))
  layer_grows vs (Statement-F.Repeat body e) p h =
      let g = h.1 in
      after vs _ _ p h.2 (after vs _ _ h.0 (g.2).2 (further (g.2).0.1 g.0.1 vs (guard_grows ms s n g.0.1 e (g.2).0 (g.2).1) (grows vs body g.0 g.1)))
  layer_grows vs (Statement-F.For head body) p h =
      let g = h.1 in
      after vs _ _ p h.2 (after vs _ _ h.0 (g.2).2 (further (g.2).0.1 g.0.1 vs (grows g.0.1 body (g.2).0 (g.2).1) (head_grows vs head g.0 g.1)))

  next_grows : (vs : Variables) (before : List TypedStatement × Variables) (x : Statement) (p : List TypedStatement × Variables) → gives (next_statement ms s n inner before x) p → Extends before.1 vs → Extends p.1 vs
  unfolding next_statement statement_of
  next_grows vs before x p h g = after vs _ _ p h.2 (further h.0.1 before.1 vs (layer_grows before.1 (out-Statement x) h.0 h.1) g)

pub statements_grow : (ms : Modules) (s : Scope) (n : ℕ) (vs : Variables) (xs : List Statement) (p : List TypedStatement × Variables) → gives (statements_at ms s n vs xs) p → Extends p.1 vs
unfolding statements_at
statements_grow ms s zero vs xs p h = absurd h
statements_grow ms s (suc n) vs xs p h =
    through_keeps (λ q. Extends q.1 vs) (next_statement ms s n (statements_at ms s n))
    (λ a e b k c. next_grows ms s n (statements_at ms s n) (statements_grow ms s n) vs a e b k c) ([], vs) xs p h (unchanged vs)
