-- What a statement means, by the lists in its tree.
use Rattle.std.proofs.Common.{◌≡◌, ℕ, ℤ, Bool, true, false, cond, List, [], ◌∷◌, map, Option, Some, None, option_map, refl, sym, ap, ◌∙◌}
use Rattle.ob_mean.specs.declared.expression.TypedExpr.{TypedExpr}
use Rattle.ob_mean.specs.declared.statement.Branch.{Branch}
use Rattle.ob_mean.specs.declared.statement.ForHead.{ForHead}
use Rattle.ob_mean.specs.declared.statement.CaseArm.{CaseArm}
use Rattle.ob_mean.specs.declared.statement.TypedStatement.{TypedStatement, Row_of-TypedStatement, end_of-TypedStatement, more_of-TypedStatement}
use Rattle.ob_mean.specs.declared.statement.TypedStatement.TheVariants.{If, If', Case, Case', While, While', Repeat, Repeat', For, For'}
use Rattle.ob_mean.specs.declared.statement.TypedStatement.TheBlock as block
use Rattle.ob_mean.specs.declared.statement.TypedStatement.TheBlock.{Row_of-Branch, end_of-Branch, more_of-Branch, Row_of-CaseArm, end_of-CaseArm, more_of-CaseArm, items-the_row-TypedStatement, items-the_row-Branch, items-the_row-CaseArm}
use Rattle.ob_mean.specs.Runs.{World, Supply, Done, Piece, and_then}
use Rattle.ob_mean.specs.Expressions.{Scope, value_of, variable_place}
use Rattle.ob_mean.specs.Control.{in_order, is_labelled, arm_for, chosen, looping, repeating}
use Rattle.ob_mean.specs.Statements.{stat_meaning, pieces, guarded, arms_of, list_meaning, case_body, for_loop}
use Rattle.ob_reference.specs.Branches.{branch_pieces, arm_pieces, found_arm}

pub row_pieces : (scope : Scope) (k : _) (row : Row_of-TypedStatement k) → pieces scope row ≡ map (stat_meaning scope) (items-the_row-TypedStatement k row)
row_pieces scope k end_of-TypedStatement = refl
row_pieces scope k (more_of-TypedStatement s rest) = ap (λ l. stat_meaning scope s ∷ l) (row_pieces scope _ rest)

shown_row : (m : _) (body : _) → items-the_row-TypedStatement _ body ≡ block.shown-the_row-TypedStatement-0 m body
shown_row m body = sym (block.items_shown-the_row-TypedStatement-0 m body)

row_guarded : (scope : Scope) (k : _) (row : Row_of-Branch k) → guarded scope row ≡ branch_pieces scope (items-the_row-Branch k row)
row_guarded scope k end_of-Branch = refl
row_guarded scope k (more_of-Branch e m body rest) =
    ap (λ l. record { guard = value_of scope e; body = in_order l } ∷ guarded scope rest) (row_pieces scope _ body ∙ ap (map (stat_meaning scope)) (shown_row m body))
    ∙ ap (λ l. record { guard = value_of scope e; body = list_meaning scope (block.shown-the_row-TypedStatement-0 m body) } ∷ l) (row_guarded scope _ rest)

row_arms : (scope : Scope) (k : _) (row : Row_of-CaseArm k) → arms_of scope row ≡ arm_pieces scope (items-the_row-CaseArm k row)
row_arms scope k end_of-CaseArm = refl
row_arms scope k (more_of-CaseArm labels m body rest) =
    ap (λ l. record { labels = labels; body = in_order l } ∷ arms_of scope rest) (row_pieces scope _ body ∙ ap (map (stat_meaning scope)) (shown_row m body))
    ∙ ap (λ l. record { labels = labels; body = list_meaning scope (block.shown-the_row-TypedStatement-0 m body) } ∷ l) (row_arms scope _ rest)

-- the rows of a statement
abbrev branches_in : TypedStatement → (k : _) × Row_of-Branch k
branches_in (If' k bs m rest) = (_, bs)
branches_in (While' k bs) = (_, bs)
branches_in _ = (_, end_of-Branch)

abbrev statements_in : TypedStatement → (k : _) × Row_of-TypedStatement k
statements_in (If' k bs m rest) = (_, rest)
statements_in (Repeat' k body e) = (_, body)
statements_in _ = (_, end_of-TypedStatement)

abbrev for_row : TypedStatement → (k : _) × Row_of-TypedStatement k
for_row (For' head k body) = (_, body)
for_row _ = (_, end_of-TypedStatement)

abbrev arms_in : TypedStatement → (k : _) × Row_of-CaseArm k
arms_in (Case' line e k arms) = (_, arms)
arms_in _ = (_, end_of-CaseArm)

list_of_row : (scope : Scope) (k : _) (row : Row_of-TypedStatement k) (l : List TypedStatement) → items-the_row-TypedStatement k row ≡ l → in_order (pieces scope row) ≡ list_meaning scope l
list_of_row scope k row l e = ap in_order (row_pieces scope k row ∙ ap (map (stat_meaning scope)) e)

pub if_is : (scope : Scope) (bs : List Branch) (rest : List TypedStatement) (n : Supply) (w : World) → stat_meaning scope (If bs rest) n w ≡ chosen (branch_pieces scope bs) (list_meaning scope rest) n w
if_is scope bs rest n w =
    ap (λ l. chosen l (in_order (pieces scope (statements_in (If bs rest)).1)) n w) (row_guarded scope (branches_in (If bs rest)).0 (branches_in (If bs rest)).1 ∙ ap (branch_pieces scope) (block.items_hidden-the_row-Branch-1 bs))
    ∙ ap (λ p. chosen (branch_pieces scope bs) p n w) (list_of_row scope (statements_in (If bs rest)).0 (statements_in (If bs rest)).1 rest (block.items_hidden-the_row-TypedStatement-0 rest))

pub case_is : (scope : Scope) (line : ℕ) (e : TypedExpr) (arms : List CaseArm) (n : Supply) (w : World) → stat_meaning scope (Case line e arms) n w ≡ and_then (value_of scope e n w) (λ v n1 w1. case_body scope line (arm_for (arm_pieces scope arms) v) n1 w1)
case_is scope line e arms n w =
    ap (λ l. and_then (value_of scope e n w) (λ v n1 w1. case_body scope line (arm_for l v) n1 w1)) (row_arms scope (arms_in (Case line e arms)).0 (arms_in (Case line e arms)).1 ∙ ap (arm_pieces scope) (block.items_hidden-the_row-CaseArm-2 arms))

pub while_is : (scope : Scope) (bs : List Branch) (n : Supply) (w : World) → stat_meaning scope (While bs) n w ≡ looping (branch_pieces scope bs) n.turns n w
while_is scope bs n w =
    ap (λ l. looping l n.turns n w) (row_guarded scope (branches_in (While bs)).0 (branches_in (While bs)).1 ∙ ap (branch_pieces scope) (block.items_hidden-the_row-Branch-1 bs))

pub repeat_is : (scope : Scope) (body : List TypedStatement) (e : TypedExpr) (n : Supply) (w : World) → stat_meaning scope (Repeat body e) n w ≡ repeating (list_meaning scope body) (value_of scope e) n.turns n w
repeat_is scope body e n w =
    ap (λ p. repeating p (value_of scope e) n.turns n w) (list_of_row scope (statements_in (Repeat body e)).0 (statements_in (Repeat body e)).1 body (block.items_hidden-the_row-TypedStatement-0 body))

pub for_is : (scope : Scope) (head : ForHead) (body : List TypedStatement) (n : Supply) (w : World) → stat_meaning scope (For head body) n w ≡ for_loop scope head (variable_place scope head.variable w.store) (list_meaning scope body) n w
for_is scope head body n w =
    ap (λ p. for_loop scope head (variable_place scope head.variable w.store) p n w) (list_of_row scope (for_row (For head body)).0 (for_row (For head body)).1 body (block.items_hidden-the_row-TypedStatement-0 body))

-- the arm that is found
arm_by : (scope : Scope) (b : Bool) (body : List TypedStatement) (p : Option (Piece Done)) (o : Option (List TypedStatement)) → p ≡ option_map (list_meaning scope) o → cond b (Some (list_meaning scope body)) p ≡ option_map (list_meaning scope) (cond b (Some body) o)
arm_by scope true body p o e = refl
arm_by scope false body p o e = e

pub arm_is : (scope : Scope) (arms : List CaseArm) (v : ℤ) → arm_for (arm_pieces scope arms) v ≡ option_map (list_meaning scope) (found_arm arms v)
arm_is scope [] v = refl
arm_is scope (a ∷ rest) v = arm_by scope (is_labelled a.labels v) a.body _ _ (arm_is scope rest v)

pub arm_found : (scope : Scope) (arms : List CaseArm) (v : ℤ) (body : List TypedStatement) → found_arm arms v ≡ Some body → arm_for (arm_pieces scope arms) v ≡ Some (list_meaning scope body)
arm_found scope arms v body e = arm_is scope arms v ∙ ap (option_map (list_meaning scope)) e

pub arm_missing : (scope : Scope) (arms : List CaseArm) (v : ℤ) → found_arm arms v ≡ None → arm_for (arm_pieces scope arms) v ≡ None
arm_missing scope arms v e = arm_is scope arms v ∙ ap (option_map (list_meaning scope)) e
