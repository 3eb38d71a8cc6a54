-- The code of a statement, by the lists in its tree.
use Rattle.std.proofs.Common.{◌≡◌, ℕ, suc, ◌+◌, ◌-◌, ◌≤◌, List, [], ◌∷◌, ◌++◌, length, refl, sym, ap, ◌∙◌, subst, arith, append_assoc, length-append}
use Rattle.std.specs.Prelude.{slice_set, All}
use Rattle.std.proofs.Math.Seq.{set-append_seam}
use Rattle.std.proofs.lemmas.List.Elements.{All-cons}
use Rattle.ob_mean.specs.declared.expression.TypedExpr.{TypedExpr}
use Rattle.ob_mean.specs.declared.outcome.TrapKind.TheVariants as trap
use Rattle.ob_mean.specs.declared.operator.UnaryOperator.TheVariants.{Not}
use Rattle.ob_mean.specs.declared.statement.LabelRange.{LabelRange}
use Rattle.ob_mean.specs.declared.statement.Branch.{Branch}
use Rattle.ob_mean.specs.declared.statement.ForHead.{ForHead}
use Rattle.ob_mean.specs.declared.statement.CaseArm.{CaseArm}
use Rattle.ob_mean.specs.declared.statement.TypedStatement.{TypedStatement, Row_of-TypedStatement, end_of-TypedStatement, more_of-TypedStatement}
use Rattle.ob_mean.specs.declared.statement.TypedStatement.TheVariants.{If, If', Case, Case', While, While', Repeat, Repeat', For, For'}
use Rattle.ob_mean.specs.declared.statement.TypedStatement.TheBlock as block
use Rattle.ob_mean.specs.declared.statement.TypedStatement.TheBlock.{Row_of-Branch, end_of-Branch, more_of-Branch, Row_of-CaseArm, end_of-CaseArm, more_of-CaseArm, items-the_row-TypedStatement, items-the_row-Branch, items-the_row-CaseArm}
use Rattle.ob_mean.specs.WellFormed.{Names}
use Rattle.ob_code.specs.declared.instr.Instr.TheVariants as instr
use Rattle.ob_code.specs.declared.instr.Line.{Line}
use Rattle.ob_code.specs.declared.instr.Root.{Root}
use Rattle.ob_gen.specs.Code.{line, expr_code, stat_code, stats_code, branches, arms_code, list_code, first_code, bodies_code, guards_code, loop_code, repeat_code, for_code, for_guard, for_step, root_of, labels_code, arm_code}
use Rattle.ob_gen.specs.Emitted.{leading, starts, guarded_list, branch_piece, body_piece, arm_piece, arms_list, guards_to}

row_code : (names : Names) (k : _) (row : Row_of-TypedStatement k) → stats_code names row ≡ list_code names (items-the_row-TypedStatement k row)
row_code names k end_of-TypedStatement = refl
row_code names k (more_of-TypedStatement s rest) = ap (λ l. stat_code names s ++ l) (row_code names _ rest)

shown_row : (m : _) (body : _) → items-the_row-TypedStatement _ body ≡ block.shown-the_row-TypedStatement-0 m body
shown_row m body = sym (block.items_shown-the_row-TypedStatement-0 m body)

row_branches : (names : Names) (k : _) (row : Row_of-Branch k) → branches names row ≡ guarded_list names (items-the_row-Branch k row)
row_branches names k end_of-Branch = refl
row_branches names k (more_of-Branch e m body rest) =
    ap (λ l. record { guard = expr_code names 0 0 e; body = l } ∷ branches names rest) (row_code names _ body ∙ ap (list_code names) (shown_row m body))
    ∙ ap (λ l. record { guard = expr_code names 0 0 e; body = list_code names (block.shown-the_row-TypedStatement-0 m body) } ∷ l) (row_branches names _ rest)

row_arms : (names : Names) (l : ℕ) (k : _) (row : Row_of-CaseArm k) → arms_code names l row ≡ arms_list names l (items-the_row-CaseArm k row)
row_arms names l k end_of-CaseArm = refl
row_arms names l k (more_of-CaseArm labels m body rest) =
    ap (λ x. arm_code labels x (arms_code names l rest)) (row_code names _ body ∙ ap (list_code names) (shown_row m body))
    ∙ ap (λ x. arm_code labels (list_code names (block.shown-the_row-TypedStatement-0 m body)) x) (row_arms names l _ rest)

-- the rows of a statement
abbrev branches_in : TypedStatement → (k : _) × Row_of-Branch k
branches_in (If' k bs m rest) = (_, bs)
branches_in (While' k bs) = (_, bs)
branches_in _ = (_, end_of-Branch)

abbrev statements_in : TypedStatement → (k : _) × Row_of-TypedStatement k
statements_in (If' k bs m rest) = (_, rest)
statements_in (Repeat' k body e) = (_, body)
statements_in _ = (_, end_of-TypedStatement)

abbrev for_row : TypedStatement → (k : _) × Row_of-TypedStatement k
for_row (For' head k body) = (_, body)
for_row _ = (_, end_of-TypedStatement)

abbrev arms_in : TypedStatement → (k : _) × Row_of-CaseArm k
arms_in (Case' l e k arms) = (_, arms)
arms_in _ = (_, end_of-CaseArm)

code_of_row : (names : Names) (k : _) (row : Row_of-TypedStatement k) (l : List TypedStatement) → items-the_row-TypedStatement k row ≡ l → stats_code names row ≡ list_code names l
code_of_row names k row l e = row_code names k row ∙ ap (list_code names) e

pub if_tree_code : (names : Names) (bs : List Branch) (rest : List TypedStatement) → stat_code names (If bs rest) ≡ first_code (guarded_list names bs) (list_code names rest)
if_tree_code names bs rest =
    ap (λ l. first_code l (stats_code names (statements_in (If bs rest)).1)) (row_branches names (branches_in (If bs rest)).0 (branches_in (If bs rest)).1 ∙ ap (guarded_list names) (block.items_hidden-the_row-Branch-1 bs))
    ∙ ap (λ l. first_code (guarded_list names bs) l) (code_of_row names (statements_in (If bs rest)).0 (statements_in (If bs rest)).1 rest (block.items_hidden-the_row-TypedStatement-0 rest))

pub case_tree_code : (names : Names) (l : ℕ) (e : TypedExpr) (arms : List CaseArm) → stat_code names (Case l e arms) ≡ expr_code names 0 0 e ++ arms_list names l arms
case_tree_code names l e arms =
    ap (λ x. expr_code names 0 0 e ++ x) (row_arms names l (arms_in (Case l e arms)).0 (arms_in (Case l e arms)).1 ∙ ap (arms_list names l) (block.items_hidden-the_row-CaseArm-2 arms))

pub while_tree_code : (names : Names) (bs : List Branch) → stat_code names (While bs) ≡ loop_code (guarded_list names bs)
while_tree_code names bs =
    ap loop_code (row_branches names (branches_in (While bs)).0 (branches_in (While bs)).1 ∙ ap (guarded_list names) (block.items_hidden-the_row-Branch-1 bs))

pub repeat_tree_code : (names : Names) (body : List TypedStatement) (e : TypedExpr) → stat_code names (Repeat body e) ≡ repeat_code (list_code names body) (expr_code names 0 0 e)
repeat_tree_code names body e =
    ap (λ l. repeat_code l (expr_code names 0 0 e)) (code_of_row names (statements_in (Repeat body e)).0 (statements_in (Repeat body e)).1 body (block.items_hidden-the_row-TypedStatement-0 body))

pub for_tree_code : (names : Names) (head : ForHead) (body : List TypedStatement) → stat_code names (For head body) ≡ for_code names head (list_code names body)
for_tree_code names head body =
    ap (λ l. for_code names head l) (code_of_row names (for_row (For head body)).0 (for_row (For head body)).1 body (block.items_hidden-the_row-TypedStatement-0 body))

-- ---- jumps to the end

pub choice_leads : (names : Names) (bs : List Branch) (rest : List Line) → leading 0 0 (branch_piece names) bs rest ≡ first_code (guarded_list names bs) rest
choice_leads names [] rest = refl
choice_leads names (b ∷ bs) rest =
    let g = expr_code names 0 0 b.guard in
    let body = list_code names b.body in
    let i = line 1 0 (instr.SkipIfZero (length body + 1)) in
    let r = leading 0 0 (branch_piece names) bs rest in
    append_assoc g (i ∷ body) (line 0 0 (instr.Skip (length r)) ∷ r)
    ∙ ap (λ x. g ++ (i ∷ (body ++ (line 0 0 (instr.Skip (length x)) ∷ x)))) (choice_leads names bs rest)

pub bodies_lead : (names : Names) (bs : List Branch) → leading 0 0 (body_piece names) bs [] ≡ bodies_code (guarded_list names bs)
bodies_lead names [] = refl
bodies_lead names (b ∷ bs) = ap (λ x. list_code names b.body ++ (line 0 0 (instr.Skip (length x)) ∷ x)) (bodies_lead names bs)

pub arms_lead : (names : Names) (l : ℕ) (arms : List CaseArm) → leading 0 0 (arm_piece names) arms (line 1 0 (instr.Trap trap.Label l) ∷ []) ≡ arms_list names l arms
arms_lead names l [] = refl
arms_lead names l (a ∷ arms) =
    let labels = labels_code a.labels in
    let body = list_code names a.body in
    let i = line 1 0 (instr.Skip (length body + 2)) in
    let d = line 1 0 instr.Drop in
    let r = leading 0 0 (arm_piece names) arms (line 1 0 (instr.Trap trap.Label l) ∷ []) in
    append_assoc labels (i ∷ (d ∷ body)) (line 0 0 (instr.Skip (length r)) ∷ r)
    ∙ ap (λ x. labels ++ (i ∷ (d ∷ (body ++ (line 0 0 (instr.Skip (length x)) ∷ x))))) (arms_lead names l arms)

-- ---- guards

pub guards_lead : (names : Names) (bs : List Branch) (far at first : ℕ) → at ≡ first + far → length (bodies_code (guarded_list names bs)) ≤ far → guards_to names at (starts first (body_piece names) bs) bs ≡ guards_code far (guarded_list names bs)
guards_lead names [] far at first e le = refl
guards_lead names (b ∷ bs) far at first e le =
    let g = expr_code names 0 0 b.guard in
    let body = list_code names b.body in
    let rest = bodies_code (guarded_list names bs) in
    let la = length-append body (line 0 0 (instr.Skip (length rest)) ∷ rest) in
    let d : at + length g - first ≡ far + length g = omega (arith, e) in
    let e' : at + length g + 1 ≡ first + length body + 1 + (far + length g - length body) = omega (arith, e, le, la) in
    let le' : length rest ≤ far + length g - length body = omega (arith, le, la) in
    ap (λ n. g ++ (line 1 0 (instr.EnterBack n) ∷ guards_to names (at + length g + 1) (starts (first + length body + 1) (body_piece names) bs) bs)) d
    ∙ ap (λ x. g ++ (line 1 0 (instr.EnterBack (far + length g)) ∷ x)) (guards_lead names bs (far + length g - length body) (at + length g + 1) (first + length body + 1) e' le')

pub starts-length : (names : Names) (bs : List Branch) (at : ℕ) → length (starts at (body_piece names) bs) ≡ length bs
starts-length names [] at = refl
starts-length names (b ∷ bs) at = ap (λ k. suc k) (starts-length names bs (at + length (body_piece names b) + 1))

none_of : (P : ℕ → Type 0) → All P []
none_of P k d lt = absurd (omega (arith, lt))

pub starts_below : (names : Names) (bs : List Branch) (at most : ℕ) → at + length (bodies_code (guarded_list names bs)) ≤ most → All (λ s. s ≤ most) (starts at (body_piece names) bs)
starts_below names [] at most le = none_of (λ s. s ≤ most)
starts_below names (b ∷ bs) at most le =
    let body = list_code names b.body in
    let rest = bodies_code (guarded_list names bs) in
    let la = length-append body (line 0 0 (instr.Skip (length rest)) ∷ rest) in
    let here : at ≤ most = omega (arith, le) in
    All-cons (λ s. s ≤ most) _ _ here (starts_below names bs (at + length (body_piece names b) + 1) most (omega (arith, le, la)))

-- ---- jumps that are written once it is known how far they lead

pub passed_over : (base a c1 c2 c3 b : List Line) (x i : Line) (n : ℕ) → c1 ≡ base ++ a → n ≡ length c1 → c2 ≡ c1 ++ x ∷ [] → c3 ≡ c2 ++ b → slice_set c3 n i ≡ base ++ (a ++ i ∷ b)
passed_over base a c1 c2 c3 b x i n e1 m e2 e3 =
    ap (λ l. slice_set l n i) (e3 ∙ ap (λ l. l ++ b) e2 ∙ append_assoc c1 (x ∷ []) b)
    ∙ ap (λ k. slice_set (c1 ++ x ∷ b) k i) m
    ∙ set-append_seam c1 x b i
    ∙ ap (λ l. l ++ i ∷ b) e1
    ∙ append_assoc base a (i ∷ b)

pub branch_emitted : (names : Names) (b : Branch) (base c1 c2 c3 : List Line) (body : List TypedStatement) (n m : ℕ) → c1 ≡ base ++ expr_code names 0 0 b.guard → n ≡ length c1 → c2 ≡ c1 ++ line 1 0 (instr.SkipIfZero 0) ∷ [] → c3 ≡ c2 ++ list_code names body → m ≡ length c3 → body ≡ b.body → slice_set c3 n (line 1 0 (instr.SkipIfZero (m - n))) ≡ base ++ branch_piece names b
branch_emitted names b base c1 c2 c3 body n m e1 en e2 e3 em eb =
    let l2 = ap length e2 ∙ length-append c1 (line 1 0 (instr.SkipIfZero 0) ∷ []) in
    let l3 = ap length e3 ∙ length-append c2 (list_code names body) in
    let d : m - n ≡ length (list_code names body) + 1 = omega arith in
    ap (λ x. slice_set c3 n (line 1 0 (instr.SkipIfZero x))) d
    ∙ passed_over base (expr_code names 0 0 b.guard) c1 c2 c3 (list_code names body) _ (line 1 0 (instr.SkipIfZero (length (list_code names body) + 1))) n e1 en e2 e3
    ∙ ap (λ x. base ++ (expr_code names 0 0 b.guard ++ (line 1 0 (instr.SkipIfZero (length (list_code names x) + 1)) ∷ list_code names x))) eb

pub arm_emitted : (names : Names) (a : CaseArm) (base c1 c2 c3 c4 : List Line) (labels : List LabelRange) (body : List TypedStatement) (n m : ℕ) → c1 ≡ base ++ labels_code labels → n ≡ length c1 → c2 ≡ c1 ++ line 1 0 (instr.Skip 0) ∷ [] → c3 ≡ c2 ++ line 1 0 instr.Drop ∷ [] → c4 ≡ c3 ++ list_code names body → m ≡ length c4 → labels ≡ a.labels → body ≡ a.body → slice_set c4 n (line 1 0 (instr.Skip (m - n))) ≡ base ++ arm_piece names a
arm_emitted names a base c1 c2 c3 c4 labels body n m e1 en e2 e3 e4 em el eb =
    let d0 = line 1 0 instr.Drop in
    let rest = d0 ∷ list_code names body in
    let l2 = ap length e2 ∙ length-append c1 (line 1 0 (instr.Skip 0) ∷ []) in
    let l3 = ap length e3 ∙ length-append c2 (d0 ∷ []) in
    let l4 = ap length e4 ∙ length-append c3 (list_code names body) in
    let d : m - n ≡ length (list_code names body) + 2 = omega arith in
    let all : c4 ≡ c2 ++ rest = e4 ∙ ap (λ l. l ++ list_code names body) e3 ∙ append_assoc c2 (d0 ∷ []) (list_code names body) in
    ap (λ x. slice_set c4 n (line 1 0 (instr.Skip x))) d
    ∙ passed_over base (labels_code labels) c1 c2 c4 rest _ (line 1 0 (instr.Skip (length (list_code names body) + 2))) n e1 en e2 all
    ∙ ap (λ x. base ++ (labels_code x ++ (line 1 0 (instr.Skip (length (list_code names body) + 2)) ∷ rest))) el
    ∙ ap (λ x. base ++ (labels_code a.labels ++ (line 1 0 (instr.Skip (length (list_code names x) + 2)) ∷ (d0 ∷ list_code names x)))) eb

pub repeat_emitted : (names : Names) (base c1 c2 c3 c4 c5 bc uc : List Line) (n m : ℕ) → c1 ≡ base ++ line 0 0 instr.Enter ∷ [] → n ≡ length c1 → c2 ≡ c1 ++ bc → c3 ≡ c2 ++ uc → c4 ≡ c3 ++ line 1 0 (instr.Unary Not 0) ∷ [] → m ≡ length c4 → c5 ≡ c4 ++ line 1 0 (instr.EnterBack (m - n)) ∷ [] → c5 ≡ base ++ repeat_code bc uc
repeat_emitted names base c1 c2 c3 c4 c5 bc uc n m e1 en e2 e3 e4 em e5 =
    let x = line 0 0 instr.Enter in
    let y = line 1 0 (instr.Unary Not 0) in
    let z = line 1 0 (instr.EnterBack (m - n)) in
    let l2 = ap length e2 ∙ length-append c1 bc in
    let l3 = ap length e3 ∙ length-append c2 uc in
    let l4 = ap length e4 ∙ length-append c3 (y ∷ []) in
    let d : m - n ≡ length bc + length uc + 1 = omega arith in
    let all : c5 ≡ ((((base ++ x ∷ []) ++ bc) ++ uc) ++ y ∷ []) ++ z ∷ [] = cc in
    let flat : ((((base ++ x ∷ []) ++ bc) ++ uc) ++ y ∷ []) ++ z ∷ [] ≡ base ++ (x ∷ (bc ++ (uc ++ (y ∷ (z ∷ []))))) = simp append_assoc in
    all ∙ flat ∙ ap (λ k. base ++ (x ∷ (bc ++ (uc ++ (y ∷ (line 1 0 (instr.EnterBack k) ∷ [])))))) d

-- the jump of a loop to its guards
pub loop_jump : (base c1 c2 bodies : List Line) (x : Line) (n m : ℕ) → n ≡ length base → c1 ≡ base ++ x ∷ [] → c2 ≡ c1 ++ bodies → m ≡ length c2 → slice_set c2 n (line 0 0 (instr.Skip (m - n - 1))) ≡ base ++ line 0 0 (instr.Skip (length bodies)) ∷ bodies
loop_jump base c1 c2 bodies x n m en e1 e2 em =
    let l1 = ap length e1 ∙ length-append base (x ∷ []) in
    let l2 = ap length e2 ∙ length-append c1 bodies in
    let d : m - n - 1 ≡ length bodies = omega arith in
    ap (λ k. slice_set c2 n (line 0 0 (instr.Skip k))) d
    ∙ ap (λ l. slice_set l n (line 0 0 (instr.Skip (length bodies)))) (e2 ∙ ap (λ l. l ++ bodies) e1 ∙ append_assoc base (x ∷ []) bodies)
    ∙ ap (λ k. slice_set (base ++ x ∷ bodies) k (line 0 0 (instr.Skip (length bodies)))) en
    ∙ set-append_seam base x bodies (line 0 0 (instr.Skip (length bodies)))

pub loop_emitted : (names : Names) (bs : List Branch) (base c1 c2 c3 : List Line) (x : Line) (n m at first : ℕ) (ss : List ℕ) → n ≡ length base → c1 ≡ base ++ x ∷ [] → first ≡ length c1 → c2 ≡ c1 ++ bodies_code (guarded_list names bs) → m ≡ length c2 → c3 ≡ slice_set c2 n (line 0 0 (instr.Skip (m - n - 1))) → at ≡ length c3 → ss ≡ starts first (body_piece names) bs → c3 ++ guards_to names at ss bs ≡ base ++ loop_code (guarded_list names bs)
loop_emitted names bs base c1 c2 c3 x n m at first ss en e1 ef e2 em e3 ea es =
    let bodies = bodies_code (guarded_list names bs) in
    let j = line 0 0 (instr.Skip (length bodies)) in
    let whole : c3 ≡ base ++ j ∷ bodies = e3 ∙ loop_jump base c1 c2 bodies x n m en e1 e2 em in
    let l1 = ap length e1 ∙ length-append base (x ∷ []) in
    let l3 = ap length whole ∙ length-append base (j ∷ bodies) in
    let far : at ≡ first + length bodies = omega arith in
    let le : length bodies ≤ length bodies = omega arith in
    ap (λ s. c3 ++ guards_to names at s bs) es
    ∙ ap (λ g. c3 ++ g) (guards_lead names bs (length bodies) at first far le)
    ∙ ap (λ l. l ++ guards_code (length bodies) (guarded_list names bs)) whole
    ∙ append_assoc base (j ∷ bodies) (guards_code (length bodies) (guarded_list names bs))

pub starts_behind : (names : Names) (bs : List Branch) (c1 c2 c3 : List Line) (first most : ℕ) (ss : List ℕ) → first ≡ length c1 → c2 ≡ c1 ++ bodies_code (guarded_list names bs) → length c2 ≡ most → ss ≡ starts first (body_piece names) bs → All (λ s. s ≤ most) ss
starts_behind names bs c1 c2 c3 first most ss ef e2 el es =
    let l2 = ap length e2 ∙ length-append c1 (bodies_code (guarded_list names bs)) in
    subst (λ s. All (λ x. x ≤ most) s) (sym es) (starts_below names bs first most (omega (arith, ef, l2, el)))

pub four_more : (base c1 c2 c3 : List Line) (a b d e : Line) → c1 ≡ base ++ a ∷ [] → c2 ≡ c1 ++ b ∷ [] → c3 ≡ c2 ++ d ∷ [] → c3 ++ e ∷ [] ≡ base ++ (a ∷ (b ∷ (d ∷ (e ∷ []))))
four_more base c1 c2 c3 a b d e e1 e2 e3 =
    let all : c3 ++ e ∷ [] ≡ (((base ++ a ∷ []) ++ b ∷ []) ++ d ∷ []) ++ e ∷ [] = cc in
    let flat : (((base ++ a ∷ []) ++ b ∷ []) ++ d ∷ []) ++ e ∷ [] ≡ base ++ (a ∷ (b ∷ (d ∷ (e ∷ [])))) = simp append_assoc in
    all ∙ flat

-- FOR: the first value, its store, a jump, the body with its step and a jump, the test, and the way back
pub for_emitted : (names : Names) (head : ForHead) (base c1 c2 c3 c4 c5 c6 c7 c8 bc : List Line) (r : Root) (n m g : ℕ) → c1 ≡ base ++ expr_code names 0 0 head.first → c2 ≡ c1 ++ line 1 0 (instr.Store r) ∷ [] → n ≡ length c2 → c3 ≡ c2 ++ line 0 0 (instr.Skip 0) ∷ [] → c4 ≡ c3 ++ bc → c5 ≡ c4 ++ for_step names head → c6 ≡ c5 ++ line 0 0 (instr.Skip 0) ∷ [] → m ≡ length c6 → c7 ≡ c6 ++ for_guard names head → g ≡ length c7 → c8 ≡ c7 ++ line 1 0 (instr.EnterBack (g - n - 1)) ∷ [] → r ≡ root_of names head.variable → slice_set c8 n (line 0 0 (instr.Skip (m - n - 1))) ≡ base ++ for_code names head bc
for_emitted names head base c1 c2 c3 c4 c5 c6 c7 c8 bc r n m g e1 e2 en e3 e4 e5 e6 em e7 eg e8 er =
    let fc = expr_code names 0 0 head.first in
    let st = for_step names head in
    let gc = for_guard names head in
    let s = line 1 0 (instr.Store r) in
    let o = line 0 0 (instr.Skip 0) in
    let bodies = (bc ++ st) ++ o ∷ [] in
    let back = line 1 0 (instr.EnterBack (length bodies + length gc)) in
    let rest = bodies ++ (gc ++ back ∷ []) in
    let j = line 0 0 (instr.Skip (length bodies)) in
    let l3 = ap length e3 ∙ length-append c2 (o ∷ []) in
    let l4 = ap length e4 ∙ length-append c3 bc in
    let l5 = ap length e5 ∙ length-append c4 st in
    let l6 = ap length e6 ∙ length-append c5 (o ∷ []) in
    let l7 = ap length e7 ∙ length-append c6 gc in
    let lb = length-append (bc ++ st) (o ∷ []) in
    let lc = length-append bc st in
    let d : m - n - 1 ≡ length bodies = omega arith in
    let dg : g - n - 1 ≡ length bodies + length gc = omega arith in
    let all : c8 ≡ ((((c3 ++ bc) ++ st) ++ o ∷ []) ++ gc) ++ back ∷ [] =
    e8 ∙ ap (λ k. c7 ++ line 1 0 (instr.EnterBack k) ∷ []) dg ∙ ap (λ l. l ++ back ∷ []) (e7 ∙ ap (λ l. l ++ gc) (e6 ∙ ap (λ l. l ++ o ∷ []) (e5 ∙ ap (λ l. l ++ st) e4))) in
    let flat : ((((c3 ++ bc) ++ st) ++ o ∷ []) ++ gc) ++ back ∷ [] ≡ c3 ++ rest = simp append_assoc in
    let whole : c8 ≡ c2 ++ o ∷ rest = all ∙ flat ∙ ap (λ l. l ++ rest) e3 ∙ append_assoc c2 (o ∷ []) rest in
    ap (λ k. slice_set c8 n (line 0 0 (instr.Skip k))) d
    ∙ ap (λ l. slice_set l n j) whole
    ∙ ap (λ k. slice_set (c2 ++ o ∷ rest) k j) en
    ∙ set-append_seam c2 o rest j
    ∙ ap (λ l. l ++ j ∷ rest) (e2 ∙ ap (λ l. l ++ s ∷ []) e1)
    ∙ append_assoc (base ++ fc) (s ∷ []) (j ∷ rest)
    ∙ append_assoc base fc (s ∷ (j ∷ rest))
    ∙ ap (λ x. base ++ (fc ++ (line 1 0 (instr.Store x) ∷ (j ∷ rest)))) er
