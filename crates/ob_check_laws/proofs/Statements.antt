-- What the rules of statements give fits.
use Rattle.std.proofs.Common.{◌≡◌, ◌≢◌, ℕ, zero, suc, ℤ, pos, int_eq, ◌++◌, Bool, true, not, List, [], ◌∷◌, Option, Some, None, refl, sym, ap, ◌∙◌, subst}
use Rattle.std.proofs.lemmas.Bool.Decides.{Decides-int_eq}
use Rattle.ob_tree.specs.declared.tree.Branch.{Branch, out-Branch}
use Rattle.ob_tree.specs.declared.tree.Case.{Case, out-Case}
use Rattle.ob_tree.specs.declared.tree.Expr.{Expr}
use Rattle.ob_tree.specs.declared.tree.ForHead.{ForHead}
use Rattle.ob_tree.specs.declared.tree.Ident.{Ident}
use Rattle.ob_tree.specs.declared.tree.LabelRange.{LabelRange}
use Rattle.ob_tree.specs.declared.tree.Statement.{Statement, out-Statement}
use Rattle.ob_tree.specs.declared.tree.Statement.TheOpen.{Statement-F}
use Rattle.ob_types.specs.declared.exports.Constant.{Constant}
use Rattle.ob_types.specs.declared.exports.Constant.TheVariants as constant
use Rattle.ob_types.specs.declared.structure.Basic.TheVariants as basic
use Rattle.ob_types.specs.declared.structure.ObType.{ObType, end_of-ObType, more_of-ObType}
use Rattle.ob_types.specs.declared.structure.ObType.TheVariants.{Basic as OfBasic, Array', Open', Record}
use Rattle.ob_mean.specs.declared.expression.TypedExpr.{TypedExpr}
use Rattle.ob_mean.specs.declared.expression.Variable.{Variable}
use Rattle.ob_mean.specs.declared.statement.Branch.{Branch as TypedBranch, roll-Branch}
use Rattle.ob_mean.specs.declared.statement.CaseArm.{CaseArm, roll-CaseArm}
use Rattle.ob_mean.specs.declared.statement.ForHead.{ForHead as TypedHead}
use Rattle.ob_mean.specs.declared.statement.LabelRange.{LabelRange as TypedRange}
use Rattle.ob_mean.specs.declared.statement.TypedStatement.{TypedStatement}
use Rattle.ob_mean.specs.WellFormed.{Names, IsBasic, variable_object}
use Rattle.ob_check_scope.specs.declared.block.Entry.{Entry}
use Rattle.ob_check_scope.specs.declared.block.Entry.TheVariants as entry
use Rattle.ob_check_scope.specs.declared.predeclared.Predeclared.{Predeclared}
use Rattle.ob_check_scope.specs.declared.scope.Scope.{Scope}
use Rattle.ob_check_scope.specs.Imports.{Modules}
use Rattle.ob_check_scope.specs.Rule.{Rule, gives}
use Rattle.ob_check_scope.specs.Scope.{seen, outer, variable_of}
use Rattle.ob_check_operand.specs.Operands.{Variables}
use Rattle.ob_check_stmt.specs.Statements.{StatementLayer, is_integer, counter_of, counter_found, counter_named, step_of, chain, step_at, for_head, optional, next_branch, branches, if_rule, while_rule, Arms, arm_of, case_of, next_case, arms_of, case_rule, repeat_rule, for_rule, statement_layer, statement_of, next_statement, statements_at}
use Rattle.ob_check_laws.specs.Fitting.{Suits, EntryFits, ScopeFits, StartsWith, BranchListFits, ArmListFits}
use Rattle.ob_check_laws.proofs.Forms.{if_fits, case_fits, while_fits, repeat_fits, for_fits}
use Rattle.ob_check_laws.proofs.Expressions.{value_at_fits, value_for_fits, guard_fits}
use Rattle.ob_check_laws.proofs.Actions.{assignment_fits, call_fits}
use Rattle.ob_check_laws.proofs.Rules.{through_keeps}
use Rattle.ob_check_laws.proofs.Suiting.{never, basic_suits}
use Rattle.ob_check_laws.specs.Formed.{ExprFits, StatFits, ListFits, HeadFits}

-- statements, where the variables begin with these
abbrev pub StatementsAre : Names → Variables → (List TypedStatement) × Variables → Type 0
StatementsAre names vs p = StartsWith names.variables p.1 → ListFits names p.0 × StartsWith names.variables vs

abbrev StatementIs : Names → Variables → TypedStatement × Variables → Type 0
StatementIs names vs p = StartsWith names.variables p.1 → StatFits names p.0 × StartsWith names.variables vs

abbrev MaybeFits : Names → Option TypedStatement → Type 0
MaybeFits names None = Unit {0}
MaybeFits names (Some x) = StatFits names x

abbrev MaybeIs : Names → Variables → Option TypedStatement × Variables → Type 0
MaybeIs names vs p = StartsWith names.variables p.1 → MaybeFits names p.0 × StartsWith names.variables vs

-- ---- what stands between FOR and DO

integer_suits : (names : Names) (t : ObType) (v : Variable) → is_integer t ≡ true → Suits t (variable_object names v) → IsBasic (variable_object names v)
integer_suits names (OfBasic b) v h g = basic_suits b (variable_object names v) g
integer_suits names (Array' n p (more_of-ObType x end_of-ObType)) v h g = never h
integer_suits names (Open' p (more_of-ObType x end_of-ObType)) v h g = never h
integer_suits names (Record r) v h g = never h

counter_found_fits : (ms : Modules) (names : Names) (s : Scope) (o : Option Entry) (p : Predeclared) (v : Variable) → ((e : Entry) → o ≡ Some e → EntryFits ms names s e) → gives (counter_found s o p) v → IsBasic (variable_object names v)
unfolding counter_found counter_of
counter_found_fits ms names s (Some (entry.Variable t place)) p v g h =
    subst (λ x. IsBasic (variable_object names x)) h.1.1 (integer_suits names t (variable_of s place) h.1.0 (g (entry.Variable t place) refl).0)
counter_found_fits ms names s (Some (entry.Constant c)) p v g h = absurd h
counter_found_fits ms names s (Some (entry.TypeName c)) p v g h = absurd h
counter_found_fits ms names s (Some (entry.Procedure c k)) p v g h = absurd h
counter_found_fits ms names s (Some entry.In) p v g h = absurd h
counter_found_fits ms names s (Some entry.Out) p v g h = absurd h
counter_found_fits ms names s (Some (entry.Module i place)) p v g h = absurd h
counter_found_fits ms names s None p v g h = absurd h

counter_fits : (ms : Modules) (names : Names) (s : Scope) (i : Ident) (v : Variable) → ScopeFits ms names s → gives (counter_named s i) v → IsBasic (variable_object names v)
unfolding counter_named
counter_fits ms names s i v scope h = counter_found_fits ms names s (seen s i.name) (outer s i.name) v (scope i.name) h

not_zero : (z : ℤ) → not (int_eq z (pos 0)) ≡ true → z ≢ pos 0
not_zero z h e = never (sym (ap not ((Decides-int_eq z (pos 0)).1 e)) ∙ h)

step_is : (c : Constant) (z : ℤ) → gives (step_of c) z → z ≢ pos 0
unfolding step_of
step_is (constant.Integer y) z h = subst (λ x. x ≢ pos 0) h.1 (not_zero y h.0)
step_is (constant.Boolean b) z h = absurd h
step_is (constant.Char c) z h = absurd h
step_is (constant.Text t) z h = absurd h

one_not_zero : pos 1 ≢ pos 0
one_not_zero e = never (ap (λ z. int_eq z (pos 1)) (sym e))

step_fits : (ms : Modules) (s : Scope) (n : ℕ) (e : Option Expr) (z : ℤ) → gives (step_at ms s n e) z → z ≢ pos 0
unfolding step_at
step_fits ms s n None z h = subst (λ x. x ≢ pos 0) h one_not_zero
step_fits ms s n (Some e) z h = step_is h.0 z h.2

-- ---- statements

branches_more : (names : Names) (bs : List TypedBranch) (e : TypedExpr) (body : List TypedStatement) → BranchListFits names bs → ExprFits names e → ListFits names body → BranchListFits names (bs ++ roll-Branch (record { guard = e; body = body }) ∷ [])
branches_more names [] e body h g k = (g, k, tt)
branches_more names (b ∷ bs) e body h g k = (h.0, h.1, branches_more names bs e body h.2 g k)

arms_more : (names : Names) (arms : List CaseArm) (labels : List TypedRange) (body : List TypedStatement) → ArmListFits names arms → ListFits names body → ArmListFits names (arms ++ roll-CaseArm (record { labels = labels; body = body }) ∷ [])
arms_more names [] labels body h k = (k, tt)
arms_more names (a ∷ arms) labels body h k = (h.0, arms_more names arms labels body h.1 k)

statements_more : (names : Names) (xs : List TypedStatement) (x : Option TypedStatement) → ListFits names xs → MaybeFits names x → ListFits names (chain xs x)
statements_more names xs None h g = h
statements_more names xs (Some x) h g = more xs h
  where
    more : (xs : List TypedStatement) → ListFits names xs → ListFits names (xs ++ x ∷ [])
    more [] k = (g, tt)
    more (y ∷ ys) k = (k.0, more ys k.1)

module _ (ms : Modules) (names : Names) (s : Scope) (scope : ScopeFits ms names s) (n : ℕ) (inner : Variables → List Statement → Rule (List TypedStatement × Variables)) (inside : (vs : Variables) (xs : List Statement) (p : List TypedStatement × Variables) → gives (inner vs xs) p → StatementsAre names vs p) where
  head_fits : (vs : Variables) (h : ForHead) (p : TypedHead × Variables) → gives (for_head ms s n vs h) p → StartsWith names.variables p.1 → HeadFits names p.0 × StartsWith names.variables vs
  unfolding for_head
  head_fits vs head p h t =
      let a = h.2 in
      let b = a.2 in
      let z = b.2 in
      let l = value_for_fits ms names s scope n basic.Integer a.0.1 head.last b.0 b.1 (subst (λ y. StartsWith names.variables y.1) (sym z.2) t) in
      let f = value_for_fits ms names s scope n basic.Integer vs head.first a.0 a.1 l.1 in
      (subst (λ y. HeadFits names y.0) z.2 (counter_fits ms names s head.variable h.0 scope h.1, f.0, l.0, step_fits ms s n head.step z.0 z.1), f.1)

  pub optional_fits : (vs : Variables) (xs : List Statement) (p : List TypedStatement × Variables) → gives (optional ms s n inner vs xs) p → StatementsAre names vs p
  unfolding optional
  optional_fits vs [] p h t = (subst (λ y. ListFits names y.0) h tt, subst (λ y. StartsWith names.variables y.1) (sym h) t)
  optional_fits vs (x ∷ xs) p h t = inside vs (x ∷ xs) p h t

  abbrev BranchesAre : Variables → (List TypedBranch) × Variables → Type 0
  BranchesAre vs p = StartsWith names.variables p.1 → BranchListFits names p.0 × StartsWith names.variables vs

  next_branch_fits : (vs : Variables) (before : List TypedBranch × Variables) (b : Branch) (p : List TypedBranch × Variables) → gives (next_branch ms s n inner before b) p → BranchesAre vs before → BranchesAre vs p
  unfolding next_branch
  next_branch_fits vs before b p h g = subst (BranchesAre vs) (h.2).2 (λ t.
      let k = inside h.0.1 (out-Branch b).body (h.2).0 (h.2).1 t in
      let e = guard_fits ms names s scope n before.1 (out-Branch b).guard h.0 h.1 k.1 in
      let l = g e.1 in
      (branches_more names before.0 h.0.0 (h.2).0.0 l.0 e.0 k.0, l.1))

  branches_fit : (vs : Variables) (first : Branch) (others : List Branch) (p : List TypedBranch × Variables) → gives (branches ms s n inner vs first others) p → BranchesAre vs p
  unfolding branches
  branches_fit vs first others p h =
      through_keeps (BranchesAre vs) (next_branch ms s n inner) (λ a e b k c. next_branch_fits vs a e b k c) ([], vs) (first ∷ others) p h (λ t. (tt, t))

  if_rule_fits : (vs : Variables) (first : Branch) (others : List Branch) (rest : List Statement) (p : TypedStatement × Variables) → gives (if_rule ms s n inner vs first others rest) p → StatementIs names vs p
  unfolding if_rule
  if_rule_fits vs first others rest p h t =
      let q = h.2 in
      let k = optional_fits h.0.1 rest q.0 q.1 (subst (λ y. StartsWith names.variables y.1) (sym q.2) t) in
      let l = branches_fit vs first others h.0 h.1 k.1 in
      (subst (λ y. StatFits names y.0) q.2 (if_fits names h.0.0 q.0.0 l.0 k.0), l.1)

  while_rule_fits : (vs : Variables) (first : Branch) (others : List Branch) (p : TypedStatement × Variables) → gives (while_rule ms s n inner vs first others) p → StatementIs names vs p
  unfolding while_rule
  while_rule_fits vs first others p h t =
      let l = branches_fit vs first others h.0 h.1 (subst (λ y. StartsWith names.variables y.1) (sym h.2) t) in
      (subst (λ y. StatFits names y.0) h.2 (while_fits names h.0.0 l.0), l.1)

  -- ---- CASE

  abbrev ArmsAre : Variables → Arms ms s n inner → Type 0
  ArmsAre vs p = StartsWith names.variables p.2 → ArmListFits names p.1 × StartsWith names.variables vs

  case_of_fits : (character : Bool) (vs : Variables) (before : Arms ms s n inner) (ls : List LabelRange) (body : List Statement) (p : Arms ms s n inner) → gives (case_of ms s n inner character before ls body) p → ArmsAre vs before → ArmsAre vs p
  unfolding case_of arm_of
  case_of_fits character vs before [] body p h g = subst (ArmsAre vs) h g
  case_of_fits character vs before (r ∷ rs) body p h g = subst (ArmsAre vs) (h.2).2 (λ t.
      let k = inside before.2 body (h.2).0 (h.2).1 t in
      let l = g k.1 in
      (arms_more names before.1 h.0.1 (h.2).0.0 l.0 k.0, l.1))

  next_case_fits : (character : Bool) (vs : Variables) (before : Arms ms s n inner) (x : Case) (p : Arms ms s n inner) → gives (next_case ms s n inner character before x) p → ArmsAre vs before → ArmsAre vs p
  unfolding next_case
  next_case_fits character vs before x p h g = case_of_fits character vs before (out-Case x).labels (out-Case x).body p h g

  case_rule_fits : (vs : Variables) (line : ℕ) (e : Expr) (cases : List Case) (p : TypedStatement × Variables) → gives (case_rule ms s n inner vs line e cases) p → StatementIs names vs p
  unfolding case_rule arms_of
  case_rule_fits vs line e cases p h t =
      let a = (h.2).2 in
      let q = subst (λ y. StartsWith names.variables y.1) (sym a.2) t in
      let k = through_keeps (ArmsAre h.0.2) (next_case ms s n inner (h.2).0) (λ b c d f g. next_case_fits (h.2).0 h.0.2 b c d f g) ([], [], h.0.2) cases a.0 a.1 (λ u. (tt, u)) q in
      let v = value_at_fits ms names s scope n vs e h.0 h.1 k.1 in
      (subst (λ y. StatFits names y.0) a.2 (case_fits names line h.0.1 a.0.1 v.0 k.0), v.1)

  -- ---- REPEAT and FOR

  repeat_rule_fits : (vs : Variables) (body : List Statement) (e : Expr) (p : TypedStatement × Variables) → gives (repeat_rule ms s n inner vs body e) p → StatementIs names vs p
  unfolding repeat_rule
  repeat_rule_fits vs body e p h t =
      let q = h.2 in
      let k = guard_fits ms names s scope n h.0.1 e q.0 q.1 (subst (λ y. StartsWith names.variables y.1) (sym q.2) t) in
      let l = inside vs body h.0 h.1 k.1 in
      (subst (λ y. StatFits names y.0) q.2 (repeat_fits names h.0.0 q.0.0 l.0 k.0), l.1)

  for_rule_fits : (vs : Variables) (head : ForHead) (body : List Statement) (p : TypedStatement × Variables) → gives (for_rule ms s n inner vs head body) p → StatementIs names vs p
  unfolding for_rule
  for_rule_fits vs head body p h t =
      let q = h.2 in
      let k = inside h.0.1 body q.0 q.1 (subst (λ y. StartsWith names.variables y.1) (sym q.2) t) in
      let l = head_fits vs head h.0 h.1 k.1 in
      (subst (λ y. StatFits names y.0) q.2 (for_fits names h.0.0 q.0.0 l.0 k.0), l.1)

  -- ---- all statements

  some_statement : (vs : Variables) (q : TypedStatement × Variables) (p : Option TypedStatement × Variables) → (Some q.0, q.1) ≡ p → StatementIs names vs q → MaybeIs names vs p
  some_statement vs q p e h = subst (MaybeIs names vs) e h

  layer_fits : (vs : Variables) (l : StatementLayer) (p : Option TypedStatement × Variables) → gives (statement_layer ms s n inner vs l) p → MaybeIs names vs p
  layer_fits vs Statement-F.Empty p h = subst (MaybeIs names vs) h (λ t. (tt, t))
  layer_fits vs (Statement-F.Assign d e) p h = subst (MaybeIs names vs) h.2 (assignment_fits ms names s scope n vs d e h.0 h.1)
  layer_fits vs (Statement-F.Call d actuals) p h = subst (MaybeIs names vs) h.2 (call_fits ms names s scope n vs d actuals h.0 h.1)
  layer_fits vs (Statement-F.If first others rest) p h = some_statement vs h.0 p h.2 (if_rule_fits vs first others rest h.0 h.1)
  layer_fits vs (Statement-F.Case span e cases) p h = some_statement vs h.0 p h.2 (case_rule_fits vs span.line e cases h.0 h.1)
  layer_fits vs (Statement-F.While first others) p h = some_statement vs h.0 p h.2 (while_rule_fits vs first others h.0 h.1)
  layer_fits vs (Statement-F.Repeat body e) p h = some_statement vs h.0 p h.2 (repeat_rule_fits vs body e h.0 h.1)
  layer_fits vs (Statement-F.For head body) p h = some_statement vs h.0 p h.2 (for_rule_fits vs head body h.0 h.1)

  pub next_fits : (vs : Variables) (before : List TypedStatement × Variables) (x : Statement) (p : List TypedStatement × Variables) → gives (next_statement ms s n inner before x) p → StatementsAre names vs before → StatementsAre names vs p
  unfolding next_statement statement_of
  next_fits vs before x p h g = subst (StatementsAre names vs) h.2 (λ t.
      let k = layer_fits before.1 (out-Statement x) h.0 h.1 t in
      let l = g k.1 in
      (statements_more names before.0 h.0.0 l.0 k.0, l.1))

-- a sequence of statements, among so many constructs
pub statements_fit : (ms : Modules) (names : Names) (s : Scope) → ScopeFits ms names s → (n : ℕ) (vs : Variables) (xs : List Statement) (p : List TypedStatement × Variables) → gives (statements_at ms s n vs xs) p → StatementsAre names vs p
unfolding statements_at
statements_fit ms names s scope zero vs xs p h = absurd h
statements_fit ms names s scope (suc n) vs xs p h =
    through_keeps (StatementsAre names vs) (next_statement ms s n (statements_at ms s n))
    (λ a e b k c. next_fits ms names s scope n (statements_at ms s n) (statements_fit ms names s scope n) vs a e b k c) ([], vs) xs p h (λ t. (tt, t))
