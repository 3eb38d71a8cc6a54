-- To be believed.
-- Statements (Wirth, The Programming Language Oberon, Oberon-07): a rule for each, with its typed tree. The number says how many
-- more constructs may nest. The variables of the module so far, with strings after the declared ones, go through all rules from
-- left to right.
use Rattle.std.specs.Prelude.{ℕ, zero, suc, ℤ, pos, List, [], ◌∷◌, ◌++◌, Bool, true, false, not, Option, Some, None}
use Rattle.std.specs.Ordering.{int_eq}
use Rattle.ob_check_scope.specs.declared.rule.RuleCode.{RuleCode}
use Rattle.ob_check_scope.specs.declared.rule.RuleCode.TheVariants as code
use Rattle.ob_tree.specs.declared.tree.Branch.{Branch, out-Branch}
use Rattle.ob_tree.specs.declared.tree.Case.{Case, out-Case}
use Rattle.ob_tree.specs.declared.tree.Expr.{Expr}
use Rattle.ob_tree.specs.declared.tree.ForHead.{ForHead}
use Rattle.ob_tree.specs.declared.tree.Ident.{Ident}
use Rattle.ob_tree.specs.declared.tree.LabelRange.{LabelRange}
use Rattle.ob_tree.specs.declared.tree.Statement.{Statement, out-Statement}
use Rattle.ob_tree.specs.declared.tree.Statement.TheOpen.{Statement-F}
use Rattle.ob_types.specs.declared.exports.Constant.{Constant}
use Rattle.ob_types.specs.declared.exports.Constant.TheVariants as constant
use Rattle.ob_types.specs.declared.structure.Basic.{Basic}
use Rattle.ob_types.specs.declared.structure.Basic.TheVariants as basic
use Rattle.ob_types.specs.declared.structure.ObType.{ObType}
use Rattle.ob_types.specs.declared.structure.ObType.TheVariants.{Basic as OfBasic}
use Rattle.ob_mean.specs.declared.expression.TypedExpr.{TypedExpr}
use Rattle.ob_mean.specs.declared.expression.Variable.{Variable}
use Rattle.ob_mean.specs.declared.statement.Branch.{Branch as TypedBranch, roll-Branch}
use Rattle.ob_mean.specs.declared.statement.CaseArm.{CaseArm, roll-CaseArm}
use Rattle.ob_mean.specs.declared.statement.ForHead.{ForHead as TypedHead}
use Rattle.ob_mean.specs.declared.statement.LabelRange.{LabelRange as TypedRange}
use Rattle.ob_mean.specs.declared.statement.TypedStatement.{TypedStatement}
use Rattle.ob_mean.specs.declared.statement.TypedStatement.TheVariants as typed
use Rattle.ob_check_scope.specs.declared.block.Entry.{Entry}
use Rattle.ob_check_scope.specs.declared.block.Entry.TheVariants as entry
use Rattle.ob_check_scope.specs.declared.block.Standing.{Standing}
use Rattle.ob_check_scope.specs.declared.predeclared.Predeclared.{Predeclared}
use Rattle.ob_check_scope.specs.declared.predeclared.Predeclared.TheVariants as predeclared
use Rattle.ob_check_const.specs.Constants.{constant_at}
use Rattle.ob_check_scope.specs.Imports.{Modules}
use Rattle.ob_check_scope.specs.Rule.{Rule, Given, Breaks, Then, Needs, there, through}
use Rattle.ob_check_scope.specs.declared.scope.Scope.{Scope}
use Rattle.ob_check_scope.specs.Scope.{seen, outer, variable_of, is_writable}
use Rattle.ob_check_expr.specs.Expressions.{value_at, value_for_at, guard_at}
use Rattle.ob_check_operand.specs.Operands.{Variables}
use Rattle.ob_check_stmt.specs.Assignments.{assignment}
use Rattle.ob_check_stmt.specs.Calls.{call}
use Rattle.ob_check_stmt.specs.Labels.{is_character, Labelling, next_range}

abbrev pub StatementLayer : Type 0
StatementLayer = Statement-F Statement Branch Case

-- ---- what stands between FOR and DO

-- what is broken where nothing declares the name of a variable
abbrev pub absent_variable : Predeclared → RuleCode
absent_variable predeclared.LeftOut = code.LeftOut
absent_variable predeclared.Unknown = code.UnknownName
absent_variable p = code.ReadOnly

abbrev pub is_integer : ObType → Bool
is_integer (OfBasic basic.Integer) = true
is_integer t = false

-- an INTEGER variable or scalar parameter
unfoldable pub counter_of : Scope → ObType → Standing → Rule Variable
counter_of s t place = Needs (is_writable place) code.ReadOnly (Needs (is_integer t) code.Types (Given (variable_of s place)))

unfoldable pub counter_found : Scope → Option Entry → Predeclared → Rule Variable
counter_found s (Some (entry.Variable t place)) before = counter_of s t place
counter_found s (Some e) before = Breaks code.ReadOnly
counter_found s None before = Breaks (absent_variable before)

unfoldable pub counter_named : Scope → Ident → Rule Variable
counter_named s name = counter_found s (seen s name.name) (outer s name.name)

-- a step is a number, and not 0
unfoldable pub step_of : Constant → Rule ℤ
step_of (constant.Integer z) = Needs (not (int_eq z (pos 0))) code.NotConstant (Given z)
step_of c = Breaks code.Types

-- statements, and one more after them, if it is one
abbrev pub chain : List TypedStatement → Option TypedStatement → List TypedStatement
chain before None = before
chain before (Some one) = before ++ one ∷ []

module _ (ms : Modules) (s : Scope) (n : ℕ) where
  unfoldable pub step_at : Option Expr → Rule ℤ
  step_at None = Given (pos 1)
  step_at (Some e) = Then (constant_at ms s n e) (λ c. step_of c)

  unfoldable pub for_head : Variables → ForHead → Rule (TypedHead × Variables)
  for_head variables h =
      Then (counter_named s h.variable) (λ v.
      Then (value_for_at ms s n basic.Integer variables h.first) (λ p.
      Then (value_for_at ms s n basic.Integer p.1 h.last) (λ q.
      Then (step_at h.step) (λ z.
      Given (record { variable = v; first = p.0; last = q.0; step = z }, q.1)))))

module _ (ms : Modules) (s : Scope) (n : ℕ) (inner : Variables → List Statement → Rule (List TypedStatement × Variables)) where
  -- statements that need not be there
  unfoldable pub optional : Variables → List Statement → Rule (List TypedStatement × Variables)
  optional variables [] = Given ([], variables)
  optional variables (x ∷ xs) = inner variables (x ∷ xs)

  -- ---- IF and WHILE

  -- one guard more with its statements
  unfoldable pub next_branch : (List TypedBranch × Variables) → Branch → Rule (List TypedBranch × Variables)
  next_branch before b =
      Then (guard_at ms s n before.1 (out-Branch b).guard) (λ p.
      Then (inner p.1 (out-Branch b).body) (λ q.
      Given (before.0 ++ roll-Branch (record { guard = p.0; body = q.0 }) ∷ [], q.1)))

  unfoldable pub branches : Variables → Branch → List Branch → Rule (List TypedBranch × Variables)
  branches variables first others = through next_branch ([], variables) (first ∷ others)

  unfoldable pub if_rule : Variables → Branch → List Branch → List Statement → Rule (TypedStatement × Variables)
  if_rule variables first others rest =
      Then (branches variables first others) (λ p. Then (optional p.1 rest) (λ q. Given (typed.If p.0 q.0, q.1)))

  unfoldable pub while_rule : Variables → Branch → List Branch → Rule (TypedStatement × Variables)
  while_rule variables first others = Then (branches variables first others) (λ p. Given (typed.While p.0, p.1))

  -- ---- CASE

  -- all labels of a CASE so far, its arms, and the variables of the module
  abbrev pub Arms : Type 0
  Arms = List TypedRange × List CaseArm × Variables

  unfoldable pub arm_of : Labelling → List CaseArm → Variables → List Statement → Rule Arms
  arm_of l arms variables body =
      Then (inner variables body) (λ q. Given (l.0, arms ++ roll-CaseArm (record { labels = l.1; body = q.0 }) ∷ [], q.1))

  -- one case more, which may be empty
  unfoldable pub case_of : Bool → Arms → List LabelRange → List Statement → Rule Arms
  case_of character before [] body = Given before
  case_of character before (r ∷ rs) body =
      Then (through (next_range ms s character) (before.0, []) (r ∷ rs)) (λ l. arm_of l before.1 before.2 body)

  unfoldable pub next_case : Bool → Arms → Case → Rule Arms
  next_case character before x = case_of character before (out-Case x).labels (out-Case x).body

  unfoldable pub arms_of : ℕ → Basic × TypedExpr × Variables → List Case → Rule (TypedStatement × Variables)
  arms_of line value cases =
      Then (there (is_character value.0) code.Types) (λ character.
      Then (through (next_case character) ([], [], value.2) cases) (λ arms.
      Given (typed.Case line value.1 arms.1, arms.2)))

  unfoldable pub case_rule : Variables → ℕ → Expr → List Case → Rule (TypedStatement × Variables)
  case_rule variables line e cases = Then (value_at ms s n variables e) (λ p. arms_of line p cases)

  -- ---- REPEAT and FOR

  unfoldable pub repeat_rule : Variables → List Statement → Expr → Rule (TypedStatement × Variables)
  repeat_rule variables body e =
      Then (inner variables body) (λ p. Then (guard_at ms s n p.1 e) (λ q. Given (typed.Repeat p.0 q.0, q.1)))

  unfoldable pub for_rule : Variables → ForHead → List Statement → Rule (TypedStatement × Variables)
  for_rule variables h body =
      Then (for_head ms s n variables h) (λ p. Then (inner p.1 body) (λ q. Given (typed.For p.0 q.0, q.1)))

  -- ---- all statements

  abbrev pub statement_layer : Variables → StatementLayer → Rule (Option TypedStatement × Variables)
  statement_layer variables Statement-F.Empty = Given (None, variables)
  statement_layer variables (Statement-F.Assign d e) = Then (assignment ms s n variables d e) (λ p. Given (Some (typed.Simple p.0), p.1))
  statement_layer variables (Statement-F.Call d actuals) = Then (call ms s n variables d actuals) (λ p. Given (Some (typed.Simple p.0), p.1))
  statement_layer variables (Statement-F.If first others rest) = Then (if_rule variables first others rest) (λ p. Given (Some p.0, p.1))
  statement_layer variables (Statement-F.Case span e cases) = Then (case_rule variables span.line e cases) (λ p. Given (Some p.0, p.1))
  statement_layer variables (Statement-F.While first others) = Then (while_rule variables first others) (λ p. Given (Some p.0, p.1))
  statement_layer variables (Statement-F.Repeat body e) = Then (repeat_rule variables body e) (λ p. Given (Some p.0, p.1))
  statement_layer variables (Statement-F.For h body) = Then (for_rule variables h body) (λ p. Given (Some p.0, p.1))

  unfoldable pub statement_of : Variables → Statement → Rule (Option TypedStatement × Variables)
  statement_of variables x = statement_layer variables (out-Statement x)

  -- one statement more
  unfoldable pub next_statement : (List TypedStatement × Variables) → Statement → Rule (List TypedStatement × Variables)
  next_statement before x = Then (statement_of before.1 x) (λ p. Given (chain before.0 p.0, p.1))

-- a sequence of statements that opens among so many constructs: one that nests deeper has no size
unfoldable pub statements_at : Modules → Scope → ℕ → Variables → List Statement → Rule (List TypedStatement × Variables)
statements_at ms s zero variables xs = Breaks code.Size
statements_at ms s (suc n) variables xs = through (next_statement ms s n (statements_at ms s n)) ([], variables) xs
