-- What the rules of expressions, designators and actual parameters give fits.
use Rattle.std.proofs.Common.{◌≡◌, inl, ℕ, zero, suc, ◌++◌, Bool, List, [], ◌∷◌, Option, Some, None, is_some, refl, sym, ap, ◌∙◌, subst}
use Rattle.ob_check_scope.specs.declared.rule.RuleCode.TheVariants as code
use Rattle.ob_tree.specs.declared.tree.Expr.{Expr, out-Expr}
use Rattle.ob_tree.specs.declared.tree.Related.{Related, out-Related}
use Rattle.ob_tree.specs.declared.tree.Simple.{Simple, out-Simple}
use Rattle.ob_tree.specs.declared.tree.AddedTerm.{AddedTerm, out-AddedTerm}
use Rattle.ob_tree.specs.declared.tree.Term.{Term, out-Term}
use Rattle.ob_tree.specs.declared.tree.NextFactor.{NextFactor, out-NextFactor}
use Rattle.ob_tree.specs.declared.tree.Factor.{Factor, out-Factor}
use Rattle.ob_tree.specs.declared.tree.Designator.{Designator as Written, out-Designator}
use Rattle.ob_tree.specs.declared.tree.Selector.{Selector, out-Selector}
use Rattle.ob_tree.specs.declared.tree.Factor.TheOpen.{Factor-F, Selector-F, Related-F}
use Rattle.ob_tree.specs.FirstToken.{first_of}
use Rattle.ob_types.specs.declared.exports.Formal.{Formal}
use Rattle.ob_types.specs.declared.exports.FormalKind.{FormalKind}
use Rattle.ob_types.specs.declared.exports.FormalKind.TheVariants as kind
use Rattle.ob_types.specs.declared.structure.Basic.{Basic}
use Rattle.ob_types.specs.declared.structure.ObType.{ObType}
use Rattle.ob_mean.specs.declared.expression.Argument.{Argument}
use Rattle.ob_mean.specs.declared.expression.Callee.{Callee}
use Rattle.ob_mean.specs.declared.expression.Designator.TheVariants as designator
use Rattle.ob_mean.specs.declared.expression.TypedExpr.{TypedExpr}
use Rattle.ob_mean.specs.declared.module.Parameter.{Parameter}
use Rattle.ob_mean.specs.WellFormed.{Names, is_told, object_of, called, shape_object}
use Rattle.ob_check_scope.specs.declared.predeclared.Function.{Function}
use Rattle.ob_check_scope.specs.declared.scope.Scope.{Scope}
use Rattle.ob_check_const.specs.Constants.{FactorLayer, SelectorLayer, RelatedLayer}
use Rattle.ob_check_scope.specs.Imports.{Modules}
use Rattle.ob_check_scope.specs.Rule.{Rule, gives}
use Rattle.ob_check_operand.specs.declared.operand.Operand.{Operand}
use Rattle.ob_check_operand.specs.declared.operand.Operand.TheVariants as operand
use Rattle.ob_check_operand.specs.declared.joining.Joined.TheVariants as joined
use Rattle.ob_check_operand.specs.Operands.{Variables, number_of, truth_of, value_for}
use Rattle.ob_check_operand.specs.Joining.{mul_joining, add_joining}
use Rattle.ob_check_operand.specs.Relations.{relation_of}
use Rattle.ob_check_operand.specs.Functions.{one_of}
use Rattle.ob_check_operand.specs.Selecting.{Selected, selected, indexed, selector_layer, element_of}
use Rattle.ob_check_expr.specs.Alone.{LoneVariable, alone, guard_in, lone_sum, lone_variable}
use Rattle.ob_tree.specs.declared.tree.Qualident.{Qualident}
use Rattle.ob_tree.specs.declared.tree.Relation.{Relation}
use Rattle.ob_scan.specs.declared.token.Span.{Span}
use Rattle.ob_check_operand.specs.Named.{Meant, Callable}
use Rattle.ob_check_operand.specs.Named as meaning
use Rattle.ob_check_expr.specs.Expressions.{Typed, Joining, Passing, meant_rule, variable_rule, after_guard, lone_read, lone_written, call_or_guard, relation_rule, test_rule, target_rule, two_taken, one_taken, predeclared_rule, one_passed, next_passed, none_left, all_passed, function_rule, call_rule, factor_layer, factor_rule, next_factor, term_rule, added_term, simple_rule, related_layer, related_rule, expr_rule, variable_actual, value_actual, actual_rule, inner_at, deeper_at, passed_at, expr_at, target_at, actuals_at, is_value, value_at, value_for_at, guard_at, number_at, truth_at}
use Rattle.ob_check_kinds.specs.Shapes.{parameters_of}
use Rattle.ob_check_laws.specs.Fitting.{Suits, TellsRight, OperandFits, ScopeFits, StartsWith}
use Rattle.ob_check_laws.proofs.Bases.{field_suits}
use Rattle.ob_check_laws.proofs.Forms.{function_fits, element_fits, element_object, element_told}
use Rattle.ob_check_laws.proofs.Guards.{SelectedFits, guarded_is, tested_is}
use Rattle.ob_check_laws.proofs.Operands.{TypedFits, PassedFits, JoinedFits, number_fits, truth_fits, value_fits, constant_fits, variable_operand, operand_joined, sum_fits, product_fits, signed_fits, negated_fits, one_fits, two_fits, related_fits, variable_argument_fits, value_passed_fits}
use Rattle.ob_check_laws.proofs.Read.{MeantFits, CallableFits, read_fits, written_fits, called_fits}
use Rattle.ob_check_laws.proofs.Rules.{joined_none, there_is, through_keeps, joined as one_behind}
use Rattle.ob_types.specs.Solid.{IsSolid}
use Rattle.ob_check_laws.proofs.Solid.{element_solid}
use Rattle.ob_check_laws.proofs.Suiting.{elements_suit, some_same, nothing}
use Rattle.ob_check_laws.specs.Formed.{ExprFits, IndexesFit, ListPassed}

-- ---- what holds of the rules for what is inside

abbrev pub InnerFits : Names → (Variables → Expr → Rule Typed) → Type 0
InnerFits names inner = (vs : Variables) (e : Expr) (p : Typed) → gives (inner vs e) p → TypedFits names vs p

abbrev pub DeeperFits : Names → (Variables → Factor → Rule Typed) → Type 0
DeeperFits names deeper = (vs : Variables) (f : Factor) (p : Typed) → gives (deeper vs f) p → TypedFits names vs p

abbrev pub EachPassed : Names → (Formal → Variables → Expr → Rule (Argument × Variables)) → Type 0
EachPassed names passed = (f : Formal) (vs : Variables) (e : Expr) (p : Argument × Variables) → gives (passed f vs e) p → PassedFits names vs f.kind f.of p

-- ---- designators

module _ (names : Names) (inner : Variables → Expr → Rule Typed) (fits : InnerFits names inner) where
  indexed_fits : (start : Variables) (at : Selected) (e : Expr) (p : Selected) → gives (indexed inner at e) p → SelectedFits names start at → SelectedFits names start p
  unfolding indexed
  indexed_fits start at e p h g s =
      let v = h.2 in
      let i = v.2 in
      let q = subst (λ x. StartsWith names.variables x.2) (sym i.2) s in
      let inside = fits at.2 e v.0 v.1 q in
      let k = g inside.1 in
      subst (λ (x : Selected). IndexesFit names x.1 × Suits x.0 (object_of names x.1) × StartsWith names.variables start × IsSolid x.0 × TellsRight x.0 x.3 (is_told names x.1)) i.2 (
        element_fits names at.1 (first_of e).line i.0 k.0 (number_fits names v.0.0 i.0 (there_is (number_of v.0.0) code.Types i.0 i.1) inside.0),
        inl (element_object names at.1 (first_of e).line i.0 ∙ ap shape_object (elements_suit at.0 h.0 (object_of names at.1) (there_is (element_of at.0) code.Types h.0 h.1) k.1)),
        k.2,
        element_solid at.0 h.0 (there_is (element_of at.0) code.Types h.0 h.1) k.3,
        λ r. sym (element_told names at.1 (first_of e).line i.0),
      )

  layer_fits : (ms : Modules) (s : Scope) (start : Variables) (at : Selected) (l : SelectorLayer) (p : Selected) → gives (selector_layer inner ms s at l) p → SelectedFits names start at → SelectedFits names start p
  layer_fits ms s start at (Selector-F.Field f) p h g t =
      let q = subst (λ x. StartsWith names.variables x.2) (sym h.2) t in
      let k = g q in
      let f = field_suits names s at.0 f.name at.1 h.0 h.1 k.0 k.1 k.3 in
      subst (λ (x : Selected). IndexesFit names x.1 × Suits x.0 (object_of names x.1) × StartsWith names.variables start × IsSolid x.0 × TellsRight x.0 x.3 (is_told names x.1)) h.2 (f.0, inl f.1, k.2, f.2, λ r. sym f.3)
  layer_fits ms s start at (Selector-F.Index es) p h g t =
      through_keeps (SelectedFits names start) (indexed inner) (λ a e b k c. indexed_fits start a e b k c) at es p h g t
  layer_fits ms s start at (Selector-F.Guard q) p h g t = guarded_is names ms s start at q p h g t

  selected_fits : (ms : Modules) (s : Scope) (start : Variables) (at : Selected) (x : Selector) (p : Selected) → gives (selected inner ms s at x) p → SelectedFits names start at → SelectedFits names start p
  unfolding selected
  selected_fits ms s start at x p h g = layer_fits ms s start at (out-Selector x) p h g

  meant_fits : (ms : Modules) (s : Scope) (m : Meant) (vs : Variables) (p : Typed) → gives (meant_rule inner ms s m vs) p → MeantFits names m → TypedFits names vs p
  unfolding meant_rule
  meant_fits ms s (meaning.Constant c) vs p h g t = (subst (λ x. OperandFits names x.0) h (constant_fits names c), subst (λ x. StartsWith names.variables x.1) (sym h) t)
  meant_fits ms s meaning.InputDone vs p h g t = (subst (λ x. OperandFits names x.0) h tt, subst (λ x. StartsWith names.variables x.1) (sym h) t)
  meant_fits ms s (meaning.Variable t v told xs) vs p h g u =
      let q = subst (λ x. StartsWith names.variables x.1) (sym h.2) u in
      let k = through_keeps (SelectedFits names vs) (selected inner ms s) (λ a e b k c. selected_fits ms s vs a e b k c) (t, designator.Whole v, vs, told) xs h.0 h.1 (λ w. (tt, g.0, w, g.1, g.2)) q in
      (subst (λ x. OperandFits names x.0) h.2 (variable_operand names h.0.0 h.0.1 k.0 k.1 k.3), k.2)

  pub target_fits : (ms : Modules) (s : Scope) → ScopeFits ms names s → (vs : Variables) (d : Written) (p : Selected) → gives (target_rule inner ms s vs d) p → SelectedFits names vs p
  unfolding target_rule
  target_fits ms s scope vs d p h =
      let g = written_fits ms names s d h.0 scope h.1 in
      through_keeps (SelectedFits names vs) (selected inner ms s) (λ a e b k c. selected_fits ms s vs a e b k c) (h.0.0, designator.Whole h.0.1, vs, h.0.2) h.0.3 p h.2
      (λ w. (tt, g.0, w, g.1, g.2))

  variable_fits : (ms : Modules) (s : Scope) (m : Meant) (vs : Variables) (p : Selected) → gives (variable_rule inner ms s m vs) p → MeantFits names m → SelectedFits names vs p
  unfolding variable_rule
  variable_fits ms s (meaning.Constant c) vs p h g = absurd h
  variable_fits ms s meaning.InputDone vs p h g = absurd h
  variable_fits ms s (meaning.Variable t v told xs) vs p h g =
      through_keeps (SelectedFits names vs) (selected inner ms s) (λ a e b k c. selected_fits ms s vs a e b k c) (t, designator.Whole v, vs, told) xs p h (λ w. (tt, g.0, w, g.1, g.2))

  after_fits : (ms : Modules) (s : Scope) (start : Variables) (q : Option Qualident) (at p : Selected) → gives (after_guard inner ms s q at) p → SelectedFits names start at → SelectedFits names start p
  unfolding after_guard
  after_fits ms s start None at p h g = subst (SelectedFits names start) h g
  after_fits ms s start (Some q) at p h g = guarded_is names ms s start at q p h g

  lone_read_fits : (ms : Modules) (s : Scope) → ScopeFits ms names s → (vs : Variables) (x : LoneVariable) (p : Selected) → gives (lone_read inner ms s vs x) p → SelectedFits names vs p
  unfolding lone_read
  lone_read_fits ms s scope vs x p h =
      after_fits ms s vs x.1 (h.2).0 p (h.2).2 (variable_fits ms s h.0 vs (h.2).0 (h.2).1 (read_fits ms names s x.0 h.0 scope h.1))

  lone_written_fits : (ms : Modules) (s : Scope) → ScopeFits ms names s → (vs : Variables) (x : LoneVariable) (p : Selected) → gives (lone_written inner ms s vs x) p → SelectedFits names vs p
  unfolding lone_written
  lone_written_fits ms s scope vs x p h = after_fits ms s vs x.1 h.0 p h.2 (target_fits ms s scope vs x.0 h.0 h.1)

  -- ---- predeclared functions

  two_taken_fits : (f : Function) (line : ℕ) (v : Operand) (w : Typed) (es : List Expr) (p : Typed) → gives (two_taken inner f line v w es) p → StartsWith names.variables p.1 → (OperandFits names v → OperandFits names w.0 → OperandFits names p.0) × StartsWith names.variables w.1
  unfolding two_taken
  two_taken_fits f line v w [] p h s =
      (λ g k. subst (λ x. OperandFits names x.0) h.2 (two_fits names f line v w.0 h.0 h.1 g k), subst (λ x. StartsWith names.variables x.1) (sym h.2) s)
  two_taken_fits f line v w (c ∷ cs) p h s = absurd h

  one_taken_fits : (f : Function) (line : ℕ) (only : Bool) (v : Typed) (es : List Expr) (p : Typed) → gives (one_taken inner f line only v es) p → StartsWith names.variables p.1 → (OperandFits names v.0 → OperandFits names p.0) × StartsWith names.variables v.1
  unfolding one_taken
  one_taken_fits f line only v [] p h s =
      (λ g. subst (λ x. OperandFits names x.0) h.2 (one_fits names f line only v.0 h.0 (there_is (one_of f line only v.0) code.Parameters h.0 h.1) g), subst (λ x. StartsWith names.variables x.1) (sym h.2) s)
  one_taken_fits f line only v (b ∷ bs) p h s =
      let w = h.1 in
      let x = two_taken_fits f line v.0 w.0 bs p w.2 s in
      let k = fits v.1 b w.0 w.1 x.1 in
      (λ g. x.0 g k.0, k.1)

  predeclared_fits : (f : Function) (line : ℕ) (vs : Variables) (es : List Expr) (p : Typed) → gives (predeclared_rule inner f line vs es) p → TypedFits names vs p
  unfolding predeclared_rule
  predeclared_fits f line vs [] p h s = absurd h
  predeclared_fits f line vs (a ∷ bs) p h s =
      let x = one_taken_fits f line (is_some (alone a)) h.0 bs p (h.2).1 s in
      let k = fits vs a h.0 h.1 x.1 in
      (x.0 k.0, k.1)

-- ---- actual parameters

-- what is passed so far goes with the formal parameters that are left, if all go with all
abbrev ListsPassed : Names → List Parameter → Variables → Passing → Type 0
ListsPassed names ps vs p =
    StartsWith names.variables p.1 → ((more : List Argument) → ListPassed names more (parameters_of p.2) → ListPassed names (p.0 ++ more) ps) × StartsWith names.variables vs

module _ (names : Names) (passed : Formal → Variables → Expr → Rule (Argument × Variables)) (fits : EachPassed names passed) where
  one_passed_fits : (ps : List Parameter) (vs : Variables) (so_far : List Argument) (at : Variables) (fs : List Formal) (e : Expr) (p : Passing) → gives (one_passed passed so_far at fs e) p → ListsPassed names ps vs (so_far, at, fs) → ListsPassed names ps vs p
  unfolding one_passed
  one_passed_fits ps vs so_far at [] e p h g = absurd h
  one_passed_fits ps vs so_far at (f ∷ fs) e p h g = subst (ListsPassed names ps vs) h.2 (λ s.
      let k = fits f at e h.0 h.1 s in
      let l = g k.1 in
      (λ more m. subst (λ x. ListPassed names x ps) (sym (one_behind so_far h.0.0 more)) (l.0 (h.0.0 ∷ more) (k.0, m)), l.1))

  left_fits : (ps : List Parameter) (vs : Variables) (so_far : List Argument) (at : Variables) (fs : List Formal) (p : (List Argument) × Variables) → gives (none_left passed so_far at fs) p → ListsPassed names ps vs (so_far, at, fs) → StartsWith names.variables p.1 → ListPassed names p.0 ps × StartsWith names.variables vs
  unfolding none_left
  left_fits ps vs so_far at [] p h g s =
      let q = subst (λ x. StartsWith names.variables x.1) (sym h) s in
      let k = g q in
      (subst (λ x. ListPassed names x.0 ps) h (subst (λ x. ListPassed names x ps) (joined_none so_far) (k.0 [] tt)), k.1)
  left_fits ps vs so_far at (f ∷ fs) p h g s = absurd h

  all_fit : (vs : Variables) (fs : List Formal) (es : List Expr) (p : (List Argument) × Variables) → gives (all_passed passed vs fs es) p → StartsWith names.variables p.1 → ListPassed names p.0 (parameters_of fs) × StartsWith names.variables vs
  unfolding all_passed
  all_fit vs fs es p h =
      left_fits (parameters_of fs) vs h.0.0 h.0.1 h.0.2 p h.2
      (through_keeps (ListsPassed names (parameters_of fs) vs) (next_passed passed) (λ a e b k c. one_passed_fits (parameters_of fs) vs a.0 a.1 a.2 e b k c) ([], vs, fs) es h.0 h.1 (λ s. (λ more m. m, s)))

  function_rule_fits : (r : Option Basic) (f : Callee) (fs : List Formal) (line : ℕ) (vs : Variables) (es : List Expr) (p : Typed) → called names f ≡ Some (record { parameters = parameters_of fs; is_function = is_some r }) → gives (function_rule passed r f fs line vs es) p → TypedFits names vs p
  unfolding function_rule
  function_rule_fits None f fs line vs es p c h s = absurd h
  function_rule_fits (Some b) f fs line vs es p c h s =
      let q = subst (λ x. StartsWith names.variables x.1) (sym h.2) s in
      let k = all_fit vs fs es h.0 h.1 q in
      (subst (λ x. OperandFits names x.0) h.2 (function_fits names f line h.0.0 _ c refl k.0), k.1)

-- ---- expressions

module _ (ms : Modules) (names : Names) (s : Scope) (scope : ScopeFits ms names s) (inner : Variables → Expr → Rule Typed) (deeper : Variables → Factor → Rule Typed) (passed : Formal → Variables → Expr → Rule (Argument × Variables)) (inside : InnerFits names inner) (below : DeeperFits names deeper) (each : EachPassed names passed) where
  call_fits : (c : Callable) (line : ℕ) (vs : Variables) (es : List Expr) (p : Typed) → CallableFits names c → gives (call_rule inner passed c line vs es) p → TypedFits names vs p
  unfolding call_rule
  call_fits (meaning.Procedure q f) line vs es p c h = function_rule_fits names passed each q.result f q.formals line vs es p c h
  call_fits (meaning.Function f) line vs es p c h = predeclared_fits names inner inside f line vs es p h
  call_fits (meaning.Proper q) line vs es p c h = absurd h
  call_fits (meaning.Input i) line vs es p c h = absurd h
  call_fits (meaning.Output o) line vs es p c h = absurd h

  same_variables : (vs : Variables) (o : Operand) (p : Typed) → (o, vs) ≡ p → OperandFits names o → TypedFits names vs p
  same_variables vs o p e h t = (subst (λ x. OperandFits names x.0) e h, subst (λ x. StartsWith names.variables x.1) (sym e) t)

  or_guard_fits : (vs : Variables) (d : Written) (es : List Expr) (q : Option Qualident) (p : Typed) → gives (call_or_guard inner deeper passed ms s vs d es q) p → TypedFits names vs p
  unfolding call_or_guard
  or_guard_fits vs d es None p h t = call_fits h.0 (out-Designator d).name.span.line vs es p (called_fits ms names s d h.0 scope h.1) h.2 t
  or_guard_fits vs d es (Some q) p h t =
      let k = lone_read_fits names inner inside ms s scope vs (d, Some q) h.0 h.1 (subst (λ (x : Typed). StartsWith names.variables x.1) (sym h.2) t) in
      (subst (λ (x : Typed). OperandFits names x.0) h.2 (variable_operand names h.0.0 h.0.1 k.0 k.1 k.3), k.2)

  layer_of_factor : (vs : Variables) (l : FactorLayer) (p : Typed) → gives (factor_layer inner deeper passed ms s vs l) p → TypedFits names vs p
  layer_of_factor vs (Factor-F.Integer n span) p h t = same_variables vs _ p h tt t
  layer_of_factor vs (Factor-F.Text cs span) p h t = same_variables vs _ p h tt t
  layer_of_factor vs (Factor-F.Truth b span) p h t = same_variables vs _ p h tt t
  layer_of_factor vs (Factor-F.Value d) p h t = meant_fits names inner inside ms s h.0 vs p h.2 (read_fits ms names s d h.0 scope h.1) t
  layer_of_factor vs (Factor-F.Call d es) p h t = or_guard_fits vs d es (guard_in s d es) p h t
  layer_of_factor vs (Factor-F.Parens span e) p h t = inside vs e p h t
  layer_of_factor vs (Factor-F.Not span f) p h t =
      let x = h.2 in
      let q = subst (λ y. StartsWith names.variables y.1) (sym x.2) t in
      let k = below vs f h.0 h.1 q in
      (subst (λ y. OperandFits names y.0) x.2 (negated_fits names span.line h.0.0 x.0 x.1 k.0), k.1)

  factor_fits : (vs : Variables) (f : Factor) (p : Typed) → gives (factor_rule inner deeper passed ms s vs f) p → TypedFits names vs p
  unfolding factor_rule
  factor_fits vs f p h = layer_of_factor vs (out-Factor f) p h

  abbrev JoiningFits : Variables → Joining → Type 0
  JoiningFits vs j = StartsWith names.variables j.1 → JoinedFits names j.0 × StartsWith names.variables vs

  next_factor_fits : (vs : Variables) (j : Joining) (x : NextFactor) (k : Joining) → gives (next_factor inner deeper passed ms s j x) k → JoiningFits vs j → JoiningFits vs k
  unfolding next_factor
  next_factor_fits vs j x k needed g = let h = needed.1 in subst (JoiningFits vs) (h.2).2 (λ t.
      let a = factor_fits j.1 (out-NextFactor x).factor h.0 h.1 t in
      let b = g a.1 in
      (operand_joined names (mul_joining (out-NextFactor x).operator) (out-NextFactor x).span.line j.0 h.0.0 (h.2).0 (h.2).1 b.0 a.0, b.1))

  term_fits : (vs : Variables) (x : Term) (p : Typed) → gives (term_rule inner deeper passed ms s vs x) p → TypedFits names vs p
  unfolding term_rule
  term_fits vs x p h t =
      let j = h.2 in
      let q = subst (λ y. StartsWith names.variables y.1) (sym j.2) t in
      let k = through_keeps (JoiningFits vs) (next_factor inner deeper passed ms s) (λ a e b u c. next_factor_fits vs a e b u c) (joined.One h.0.0, h.0.1) (out-Term x).others j.0 j.1
      (λ u. factor_fits vs (out-Term x).first h.0 h.1 u) q in
      (subst (λ y. OperandFits names y.0) j.2 (product_fits names j.0.0 k.0), k.1)

  added_term_fits : (vs : Variables) (j : Joining) (x : AddedTerm) (k : Joining) → gives (added_term inner deeper passed ms s j x) k → JoiningFits vs j → JoiningFits vs k
  unfolding added_term
  added_term_fits vs j x k needed g = let h = needed.1 in subst (JoiningFits vs) (h.2).2 (λ t.
      let a = term_fits j.1 (out-AddedTerm x).term h.0 h.1 t in
      let b = g a.1 in
      (operand_joined names (add_joining (out-AddedTerm x).operator) (out-AddedTerm x).span.line j.0 h.0.0 (h.2).0 (h.2).1 b.0 a.0, b.1))

  simple_fits : (vs : Variables) (x : Simple) (p : Typed) → gives (simple_rule inner deeper passed ms s vs x) p → TypedFits names vs p
  unfolding simple_rule
  simple_fits vs x p h t =
      let w = h.2 in
      let j = w.2 in
      let q = subst (λ y. StartsWith names.variables y.1) (sym j.2) t in
      let k = through_keeps (JoiningFits vs) (added_term inner deeper passed ms s) (λ a e b u c. added_term_fits vs a e b u c) (joined.One w.0, h.0.1) (out-Simple x).others j.0 j.1
      (λ u. let f = term_fits vs (out-Simple x).first h.0 h.1 u in (signed_fits names (out-Simple x).sign h.0.0 w.0 w.1 f.0, f.1)) q in
      (subst (λ y. OperandFits names y.0) j.2 (sum_fits names j.0.0 k.0), k.1)

  relation_fits : (vs : Variables) (v : Typed) (r : Relation) (span : Span) (x : Simple) (p : Typed) → gives (relation_rule inner deeper passed ms s v r span x) p → TypedFits names vs v → TypedFits names vs p
  unfolding relation_rule
  relation_fits vs v r span x p needed g t =
      let h = needed.1 in
      let k = related_fits names (relation_of r) span.line h.0.1 v.0 h.0.0 p h.2 t in
      let w = simple_fits v.1 x h.0 h.1 k.1 in
      let l = g w.1 in
      (k.0 l.0 w.0, l.1)

  test_fits : (vs : Variables) (x : Simple) (d : Option LoneVariable) (q : Qualident) (p : Typed) → gives (test_rule inner deeper passed ms s vs x d q) p → TypedFits names vs p
  unfolding test_rule
  test_fits vs x None q p h t = absurd h.2
  test_fits vs x (Some d) q p h t = tested_is names ms s vs h.0 q p h.2 (lone_read_fits names inner inside ms s scope vs d h.0 h.1) t

  related_layer_fits : (vs : Variables) (x : Simple) (l : RelatedLayer) (p : Typed) → gives (related_layer inner deeper passed ms s vs x l) p → TypedFits names vs p
  related_layer_fits vs x (Related-F.By r span y) p h = relation_fits vs h.0 r span y p h.2 (simple_fits vs x h.0 h.1)
  related_layer_fits vs x (Related-F.Is span q) p h = test_fits vs x (lone_sum s x) q p h

  to_right_fits : (vs : Variables) (x : Simple) (r : Option Related) (p : Typed) → gives (related_rule inner deeper passed ms s vs x r) p → TypedFits names vs p
  unfolding related_rule
  to_right_fits vs x None p h = simple_fits vs x p h
  to_right_fits vs x (Some r) p h = related_layer_fits vs x (out-Related r) p h

  pub expr_fits : (vs : Variables) (e : Expr) (p : Typed) → gives (expr_rule inner deeper passed ms s vs e) p → TypedFits names vs p
  unfolding expr_rule
  expr_fits vs e p h = to_right_fits vs (out-Expr e).left (out-Expr e).right p h

-- ---- actual parameters

module _ (names : Names) where
  variable_actual_fits : (target : Variables → LoneVariable → Rule Selected) → ((vs : Variables) (d : LoneVariable) (p : Selected) → gives (target vs d) p → SelectedFits names vs p) → (formal : ObType) (vs : Variables) (o : Option LoneVariable) (p : Argument × Variables) → gives (variable_actual target formal vs o) p → PassedFits names vs kind.Variable formal p
  unfolding variable_actual
  variable_actual_fits target fits formal vs None p h s = absurd h
  variable_actual_fits target fits formal vs (Some d) p h s =
      let k = variable_argument_fits names formal h.0 p h.2 s in
      let g = fits vs d h.0 h.1 k.1 in
      (k.0 (g.0, g.1, g.4), g.2)

  value_actual_fits : (expr : Variables → Expr → Rule Typed) (s : Scope) → InnerFits names expr → (formal : ObType) (vs : Variables) (e : Expr) (p : Argument × Variables) → gives (value_actual expr s formal vs e) p → PassedFits names vs kind.Value formal p
  unfolding value_actual
  value_actual_fits expr s fits formal vs e p h w =
      let k = value_passed_fits names h.0.1 formal (first_of e).line (is_some (lone_variable s e)) h.0.0 p h.2 w in
      let g = fits vs e h.0 h.1 k.1 in
      (k.0 g.0, g.1)

  actual_fits : (expr : Variables → Expr → Rule Typed) (target : Variables → LoneVariable → Rule Selected) (s : Scope) → InnerFits names expr → ((vs : Variables) (d : LoneVariable) (p : Selected) → gives (target vs d) p → SelectedFits names vs p) → (k : FormalKind) (formal : ObType) (vs : Variables) (e : Expr) (p : Argument × Variables) → gives (actual_rule expr target s k formal vs e) p → PassedFits names vs k formal p
  unfolding actual_rule
  actual_fits expr target s fits targets kind.Variable formal vs e p h = variable_actual_fits target targets formal vs (lone_variable s e) p h
  actual_fits expr target s fits targets kind.Value formal vs e p h = value_actual_fits expr s fits formal vs e p h

-- ---- what nests

module _ (ms : Modules) (names : Names) (s : Scope) (scope : ScopeFits ms names s) where
  mutual
    unfolding inner_at deeper_at passed_at

    pub inner_fits : (n : ℕ) → InnerFits names (inner_at ms s n)
    inner_fits zero vs e p h = absurd h
    inner_fits (suc n) vs e p h = expr_fits ms names s scope (inner_at ms s n) (deeper_at ms s n) (passed_at ms s n) (inner_fits n) (deeper_fits n) (passed_fits n) vs e p h

    pub deeper_fits : (n : ℕ) → DeeperFits names (deeper_at ms s n)
    deeper_fits zero vs f p h = absurd h
    deeper_fits (suc n) vs f p h = factor_fits ms names s scope (inner_at ms s n) (deeper_at ms s n) (passed_at ms s n) (inner_fits n) (deeper_fits n) (passed_fits n) vs f p h

    pub passed_fits : (n : ℕ) → EachPassed names (passed_at ms s n)
    passed_fits zero f vs e p h = absurd h
    passed_fits (suc n) f vs e p h =
        actual_fits names (expr_rule (inner_at ms s n) (deeper_at ms s n) (passed_at ms s n) ms s) (lone_written (inner_at ms s n) ms s) s
        (expr_fits ms names s scope (inner_at ms s n) (deeper_at ms s n) (passed_at ms s n) (inner_fits n) (deeper_fits n) (passed_fits n))
        (lone_written_fits names (inner_at ms s n) (inner_fits n) ms s scope) f.kind f.of vs e p h

  -- ---- at a place where so many more constructs may nest

  pub at_fits : (n : ℕ) → InnerFits names (expr_at ms s n)
  unfolding expr_at
  at_fits n vs e p h = expr_fits ms names s scope (inner_at ms s n) (deeper_at ms s n) (passed_at ms s n) (inner_fits n) (deeper_fits n) (passed_fits n) vs e p h

  pub target_at_fits : (n : ℕ) (vs : Variables) (d : Written) (p : Selected) → gives (target_at ms s n vs d) p → SelectedFits names vs p
  unfolding target_at
  target_at_fits n vs d p h = target_fits names (inner_at ms s n) (inner_fits n) ms s scope vs d p h

  pub actuals_fit : (n : ℕ) (fs : List Formal) (vs : Variables) (es : List Expr) (p : (List Argument) × Variables) → gives (actuals_at ms s n fs vs es) p → StartsWith names.variables p.1 → ListPassed names p.0 (parameters_of fs) × StartsWith names.variables vs
  unfolding actuals_at
  actuals_fit n fs vs es p h = all_fit names (passed_at ms s n) (passed_fits n) vs fs es p h

  -- an expression whose value is used
  abbrev pub ValueFits : Variables → TypedExpr × Variables → Type 0
  ValueFits vs p = StartsWith names.variables p.1 → ExprFits names p.0 × StartsWith names.variables vs

  abbrev BasicFits : Variables → Basic × TypedExpr × Variables → Type 0
  BasicFits vs p = StartsWith names.variables p.2 → ExprFits names p.1 × StartsWith names.variables vs

  is_value_fits : (v : Operand) (p : Basic × TypedExpr) → is_value v ≡ Some p → OperandFits names v → ExprFits names p.1
  is_value_fits (operand.Value b x) p h g = subst (λ q. ExprFits names q.1) (some_same _ p h) g
  is_value_fits (operand.Text t) p h g = nothing p h
  is_value_fits (operand.Place t d) p h g = nothing p h

  pub value_at_fits : (n : ℕ) (vs : Variables) (e : Expr) (p : Basic × TypedExpr × Variables) → gives (value_at ms s n vs e) p → BasicFits vs p
  unfolding value_at
  value_at_fits n vs e p h t =
      let x = h.2 in
      let k = at_fits n vs e h.0 h.1 (subst (λ y. StartsWith names.variables y.2) (sym x.2) t) in
      (subst (λ y. ExprFits names y.1) x.2 (is_value_fits h.0.0 x.0 (there_is (is_value h.0.0) code.Types x.0 x.1) k.0), k.1)

  pub value_for_fits : (n : ℕ) (b : Basic) (vs : Variables) (e : Expr) (p : TypedExpr × Variables) → gives (value_for_at ms s n b vs e) p → ValueFits vs p
  unfolding value_for_at
  value_for_fits n b vs e p h t =
      let x = h.2 in
      let k = at_fits n vs e h.0 h.1 (subst (λ y. StartsWith names.variables y.1) (sym x.2) t) in
      (subst (λ y. ExprFits names y.0) x.2 (value_fits names b (first_of e).line h.0.0 x.0 (there_is (value_for b (first_of e).line h.0.0) code.Types x.0 x.1) k.0), k.1)

  pub guard_fits : (n : ℕ) (vs : Variables) (e : Expr) (p : TypedExpr × Variables) → gives (guard_at ms s n vs e) p → ValueFits vs p
  unfolding guard_at
  guard_fits n vs e p h t =
      let x = h.2 in
      let k = at_fits n vs e h.0 h.1 (subst (λ y. StartsWith names.variables y.1) (sym x.2) t) in
      (subst (λ y. ExprFits names y.0) x.2 (truth_fits names h.0.0 x.0 (there_is (truth_of h.0.0) code.Types x.0 x.1) k.0), k.1)

  pub number_at_fits : (n : ℕ) (vs : Variables) (e : Expr) (p : TypedExpr × Variables) → gives (number_at ms s n vs e) p → ValueFits vs p
  unfolding number_at
  number_at_fits n vs e p h t =
      let x = h.2 in
      let k = at_fits n vs e h.0 h.1 (subst (λ y. StartsWith names.variables y.1) (sym x.2) t) in
      (subst (λ y. ExprFits names y.0) x.2 (number_fits names h.0.0 x.0 (there_is (number_of h.0.0) code.Parameters x.0 x.1) k.0), k.1)

  pub truth_at_fits : (n : ℕ) (vs : Variables) (e : Expr) (p : TypedExpr × Variables) → gives (truth_at ms s n vs e) p → ValueFits vs p
  unfolding truth_at
  truth_at_fits n vs e p h t =
      let x = h.2 in
      let k = at_fits n vs e h.0 h.1 (subst (λ y. StartsWith names.variables y.1) (sym x.2) t) in
      (subst (λ y. ExprFits names y.0) x.2 (truth_fits names h.0.0 x.0 (there_is (truth_of h.0.0) code.Parameters x.0 x.1) k.0), k.1)
