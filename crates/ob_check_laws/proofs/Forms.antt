-- Trees fit if their parts and lists do.
use Rattle.std.proofs.Common.{◌≡◌, ℕ, List, [], ◌∷◌, true, false, Some, refl, sym, ap, ◌∙◌, subst}
use Rattle.ob_mean.specs.declared.operator.UnaryOperator.{UnaryOperator}
use Rattle.ob_mean.specs.declared.expression.TypedExpr.{TypedExpr, Row_of-TypedExpr, end_of-TypedExpr, more_of-TypedExpr}
use Rattle.ob_mean.specs.declared.expression.TypedExpr.TheVariants.{Unary, Chain, Chain', Every, Every', Either, Either', Function, Function'}
use Rattle.ob_mean.specs.declared.expression.Designator.{Designator}
use Rattle.ob_mean.specs.declared.expression.Designator.TheVariants as designator
use Rattle.ob_mean.specs.declared.expression.Operation.{Operation}
use Rattle.ob_mean.specs.declared.expression.Argument.{Argument}
use Rattle.ob_mean.specs.declared.expression.Callee.{Callee}
use Rattle.ob_mean.specs.declared.expression.Argument.TheBlock.{Row_of-Argument, end_of-Argument, more_of-Argument, items-the_row-Argument, Row_of-Operation, end_of-Operation, more_of-Operation, items-the_row-TypedExpr, items-the_row-Operation, items_hidden-the_row-Operation-2, items_hidden-the_row-TypedExpr-3, items_hidden-the_row-Argument-4}
use Rattle.ob_mean.specs.declared.kind.RecordKind.{RecordKind}
use Rattle.ob_mean.specs.declared.module.Parameter.{Parameter}
use Rattle.ob_mean.specs.declared.face.Heading.{Heading}
use Rattle.ob_mean.specs.declared.statement.Branch.{Branch}
use Rattle.ob_mean.specs.declared.statement.ForHead.{ForHead}
use Rattle.ob_mean.specs.declared.statement.CaseArm.{CaseArm}
use Rattle.ob_mean.specs.declared.statement.TypedStatement.{TypedStatement, Row_of-TypedStatement, end_of-TypedStatement, more_of-TypedStatement}
use Rattle.ob_mean.specs.declared.statement.TypedStatement.TheVariants.{If, If', Case, Case', While, While', Repeat, Repeat', For, For'}
use Rattle.ob_mean.specs.declared.statement.TypedStatement.TheBlock as block
use Rattle.ob_mean.specs.declared.statement.TypedStatement.TheBlock.{Row_of-Branch, end_of-Branch, more_of-Branch, Row_of-CaseArm, end_of-CaseArm, more_of-CaseArm, items-the_row-TypedStatement, items-the_row-Branch, items-the_row-CaseArm}
use Rattle.ob_mean.specs.WellFormed.{Names, Of, is_told, base_object, object_of, elements_in, field_in, shape_object, called}
use Rattle.ob_check_laws.specs.Fitting.{ExprListFits, OperationListFits, BranchListFits, ArmListFits}
use Rattle.ob_check_laws.specs.Formed.{IsKind, ExprFits, ExprsFit, OperationsFit, IndexesFit, RowPassed, ListPassed, IsPassed, StatFits, StatsFit, BranchesFit, ArmsFit, ListFits, HeadFits}

-- ---- expressions

pub unary_fits : (names : Names) (op : UnaryOperator) (line : ℕ) (a : TypedExpr) → ExprFits names a → ExprFits names (Unary op line a)
unfolding Rattle.ob_mean.specs.declared.expression.Argument.TheBlock.hidden-the_row-TypedExpr-1 denote.Hole.Carrier.hidden
unary_fits names op line a h = h

row_exprs : (names : Names) (k : _) (row : Row_of-TypedExpr k) → ExprsFit names row ≡ ExprListFits names (items-the_row-TypedExpr k row)
row_exprs names k end_of-TypedExpr = refl
row_exprs names k (more_of-TypedExpr e rest) = ap (λ l. ExprFits names e × l) (row_exprs names _ rest)

row_operations : (names : Names) (k : _) (row : Row_of-Operation k) → OperationsFit names row ≡ OperationListFits names (items-the_row-Operation k row)
row_operations names k end_of-Operation = refl
row_operations names k (more_of-Operation op line e rest) = ap (λ l. ExprFits names e × l) (row_operations names _ rest)

row_passed : (names : Names) (k : _) (row : Row_of-Argument k) (ps : List Parameter) → RowPassed names row ps ≡ ListPassed names (items-the_row-Argument k row) ps
row_passed names k end_of-Argument [] = refl
row_passed names k end_of-Argument (p ∷ ps) = refl
row_passed names k (more_of-Argument a rest) [] = refl
row_passed names k (more_of-Argument a rest) (p ∷ ps) = ap (λ l. IsPassed names a p × l) (row_passed names _ rest ps)

abbrev values_in : TypedExpr → (k : _) × Row_of-TypedExpr k
values_in (Every' k es) = (_, es)
values_in (Either' k es) = (_, es)
values_in _ = (_, end_of-TypedExpr)

abbrev operations_in : TypedExpr → (k : _) × Row_of-Operation k
operations_in (Chain' h a k steps) = (_, steps)
operations_in _ = (_, end_of-Operation)

abbrev arguments_in : TypedExpr → (k : _) × Row_of-Argument k
arguments_in (Function' f line k args) = (_, args)
arguments_in _ = (_, end_of-Argument)

pub chain_fits : (names : Names) (a : TypedExpr) (os : List Operation) → ExprFits names a → OperationListFits names os → ExprFits names (Chain a os)
unfolding Rattle.ob_mean.specs.declared.expression.Argument.TheBlock.hidden-the_row-TypedExpr-1 denote.Hole.Carrier.hidden
chain_fits names a os h g =
    (h, subst (λ l. l) (sym (row_operations names (operations_in (Chain a os)).0 (operations_in (Chain a os)).1 ∙ ap (OperationListFits names) (items_hidden-the_row-Operation-2 os))) g)

pub every_fits : (names : Names) (es : List TypedExpr) → ExprListFits names es → ExprFits names (Every es)
every_fits names es h =
    subst (λ l. l) (sym (row_exprs names (values_in (Every es)).0 (values_in (Every es)).1 ∙ ap (ExprListFits names) (items_hidden-the_row-TypedExpr-3 es))) h

pub either_fits : (names : Names) (es : List TypedExpr) → ExprListFits names es → ExprFits names (Either es)
either_fits names es h =
    subst (λ l. l) (sym (row_exprs names (values_in (Either es)).0 (values_in (Either es)).1 ∙ ap (ExprListFits names) (items_hidden-the_row-TypedExpr-3 es))) h

pub function_fits : (names : Names) (f : Callee) (line : ℕ) (args : List Argument) (g : Heading) → called names f ≡ Some g → g.is_function ≡ true → ListPassed names args g.parameters → ExprFits names (Function f line args)
function_fits names f line args g e t h =
    (g, e, t, subst (λ l. l) (sym (row_passed names (arguments_in (Function f line args)).0 (arguments_in (Function f line args)).1 g.parameters ∙ ap (λ l. ListPassed names l g.parameters) (items_hidden-the_row-Argument-4 args))) h)

-- ---- designators

pub element_fits : (names : Names) (d : Designator) (line : ℕ) (e : TypedExpr) → IndexesFit names d → ExprFits names e → IndexesFit names (designator.Element d line e)
unfolding Rattle.ob_mean.specs.declared.expression.Argument.TheBlock.hidden-the_row-TypedExpr-1 Rattle.ob_mean.specs.declared.expression.Argument.TheBlock.hidden-the_row-Designator-0 denote.Hole.Carrier.hidden
element_fits names d line e h g = (h, g)

pub element_object : (names : Names) (d : Designator) (line : ℕ) (e : TypedExpr) → object_of names (designator.Element d line e) ≡ shape_object (elements_in (object_of names d))
unfolding Rattle.ob_mean.specs.declared.expression.Argument.TheBlock.hidden-the_row-TypedExpr-1 Rattle.ob_mean.specs.declared.expression.Argument.TheBlock.hidden-the_row-Designator-0 denote.Hole.Carrier.hidden
element_object names d line e = refl

pub field_fits : (names : Names) (d : Designator) (i : ℕ) → IndexesFit names d → IndexesFit names (designator.Field d i)
unfolding Rattle.ob_mean.specs.declared.expression.Argument.TheBlock.hidden-the_row-Designator-0 denote.Hole.Carrier.hidden
field_fits names d i h = h

pub field_object : (names : Names) (d : Designator) (i : ℕ) → object_of names (designator.Field d i) ≡ field_in (object_of names d) i
unfolding Rattle.ob_mean.specs.declared.expression.Argument.TheBlock.hidden-the_row-Designator-0 denote.Hole.Carrier.hidden
field_object names d i = refl

pub element_told : (names : Names) (d : Designator) (line : ℕ) (e : TypedExpr) → is_told names (designator.Element d line e) ≡ false
unfolding Rattle.ob_mean.specs.declared.expression.Argument.TheBlock.hidden-the_row-TypedExpr-1 Rattle.ob_mean.specs.declared.expression.Argument.TheBlock.hidden-the_row-Designator-0 denote.Hole.Carrier.hidden
element_told names d line e = refl

pub field_told : (names : Names) (d : Designator) (i : ℕ) → is_told names (designator.Field d i) ≡ false
unfolding Rattle.ob_mean.specs.declared.expression.Argument.TheBlock.hidden-the_row-Designator-0 denote.Hole.Carrier.hidden
field_told names d i = refl

pub guarded_fits : (names : Names) (d : Designator) (line : ℕ) (k : RecordKind) (levels : ℕ) → IndexesFit names d → is_told names d ≡ true → IsKind k → base_object levels (Some (Of k.shape)) ≡ object_of names d → IndexesFit names (designator.Guarded d line k levels)
unfolding Rattle.ob_mean.specs.declared.expression.Argument.TheBlock.hidden-the_row-Designator-0 denote.Hole.Carrier.hidden
guarded_fits names d line k levels h t g o = (h, t, g, o)

pub guarded_object : (names : Names) (d : Designator) (line : ℕ) (k : RecordKind) (levels : ℕ) → object_of names (designator.Guarded d line k levels) ≡ Some (Of k.shape)
unfolding Rattle.ob_mean.specs.declared.expression.Argument.TheBlock.hidden-the_row-Designator-0 denote.Hole.Carrier.hidden
guarded_object names d line k levels = refl

pub guarded_told : (names : Names) (d : Designator) (line : ℕ) (k : RecordKind) (levels : ℕ) → is_told names (designator.Guarded d line k levels) ≡ is_told names d
unfolding Rattle.ob_mean.specs.declared.expression.Argument.TheBlock.hidden-the_row-Designator-0 denote.Hole.Carrier.hidden
guarded_told names d line k levels = refl

-- ---- statements

row_statements : (names : Names) (k : _) (row : Row_of-TypedStatement k) → StatsFit names row ≡ ListFits names (items-the_row-TypedStatement k row)
row_statements names k end_of-TypedStatement = refl
row_statements names k (more_of-TypedStatement s rest) = ap (λ l. StatFits names s × l) (row_statements names _ rest)

shown_row : (m : _) (body : _) → items-the_row-TypedStatement _ body ≡ block.shown-the_row-TypedStatement-0 m body
shown_row m body = sym (block.items_shown-the_row-TypedStatement-0 m body)

row_branches : (names : Names) (k : _) (row : Row_of-Branch k) → BranchesFit names row ≡ BranchListFits names (items-the_row-Branch k row)
row_branches names k end_of-Branch = refl
row_branches names k (more_of-Branch e m body rest) =
    ap (λ l. ExprFits names e × l × BranchesFit names rest) (row_statements names _ body ∙ ap (ListFits names) (shown_row m body))
    ∙ ap (λ l. ExprFits names e × ListFits names (block.shown-the_row-TypedStatement-0 m body) × l) (row_branches names _ rest)

row_arms : (names : Names) (k : _) (row : Row_of-CaseArm k) → ArmsFit names row ≡ ArmListFits names (items-the_row-CaseArm k row)
row_arms names k end_of-CaseArm = refl
row_arms names k (more_of-CaseArm labels m body rest) =
    ap (λ l. l × ArmsFit names rest) (row_statements names _ body ∙ ap (ListFits names) (shown_row m body))
    ∙ ap (λ l. ListFits names (block.shown-the_row-TypedStatement-0 m body) × l) (row_arms names _ rest)

abbrev branches_in : TypedStatement → (k : _) × Row_of-Branch k
branches_in (If' k bs m rest) = (_, bs)
branches_in (While' k bs) = (_, bs)
branches_in _ = (_, end_of-Branch)

abbrev statements_in : TypedStatement → (k : _) × Row_of-TypedStatement k
statements_in (If' k bs m rest) = (_, rest)
statements_in (Repeat' k body e) = (_, body)
statements_in _ = (_, end_of-TypedStatement)

abbrev for_row : TypedStatement → (k : _) × Row_of-TypedStatement k
for_row (For' head k body) = (_, body)
for_row _ = (_, end_of-TypedStatement)

abbrev arms_in : TypedStatement → (k : _) × Row_of-CaseArm k
arms_in (Case' line e k arms) = (_, arms)
arms_in _ = (_, end_of-CaseArm)

branches_from : (names : Names) (k : _) (row : Row_of-Branch k) (l : List Branch) → items-the_row-Branch k row ≡ l → BranchListFits names l → BranchesFit names row
branches_from names k row l e h = subst (λ t. t) (sym (row_branches names k row ∙ ap (BranchListFits names) e)) h

statements_from : (names : Names) (k : _) (row : Row_of-TypedStatement k) (l : List TypedStatement) → items-the_row-TypedStatement k row ≡ l → ListFits names l → StatsFit names row
statements_from names k row l e h = subst (λ t. t) (sym (row_statements names k row ∙ ap (ListFits names) e)) h

pub if_fits : (names : Names) (bs : List Branch) (rest : List TypedStatement) → BranchListFits names bs → ListFits names rest → StatFits names (If bs rest)
if_fits names bs rest h g = (
  branches_from names (branches_in (If bs rest)).0 (branches_in (If bs rest)).1 bs (block.items_hidden-the_row-Branch-1 bs) h,
  statements_from names (statements_in (If bs rest)).0 (statements_in (If bs rest)).1 rest (block.items_hidden-the_row-TypedStatement-0 rest) g,
)

pub case_fits : (names : Names) (line : ℕ) (e : TypedExpr) (arms : List CaseArm) → ExprFits names e → ArmListFits names arms → StatFits names (Case line e arms)
case_fits names line e arms h g =
    (h, subst (λ t. t) (sym (row_arms names (arms_in (Case line e arms)).0 (arms_in (Case line e arms)).1 ∙ ap (ArmListFits names) (block.items_hidden-the_row-CaseArm-2 arms))) g)

pub while_fits : (names : Names) (bs : List Branch) → BranchListFits names bs → StatFits names (While bs)
while_fits names bs h = branches_from names (branches_in (While bs)).0 (branches_in (While bs)).1 bs (block.items_hidden-the_row-Branch-1 bs) h

pub repeat_fits : (names : Names) (body : List TypedStatement) (e : TypedExpr) → ListFits names body → ExprFits names e → StatFits names (Repeat body e)
repeat_fits names body e h g =
    (statements_from names (statements_in (Repeat body e)).0 (statements_in (Repeat body e)).1 body (block.items_hidden-the_row-TypedStatement-0 body) h, g)

pub for_fits : (names : Names) (head : ForHead) (body : List TypedStatement) → HeadFits names head → ListFits names body → StatFits names (For head body)
for_fits names head body h g =
    (h, statements_from names (for_row (For head body)).0 (for_row (For head body)).1 body (block.items_hidden-the_row-TypedStatement-0 body) g)
