use Rattle.std.proofs.Common.{◌≡◌, ℕ, ◌-◌, ◌∙◌, length, vec_len, [], ◌∷◌, ◌++◌, ap, sym, subst, refl, append_assoc, append-nil}
use Rattle.std.specs.Prelude.{OnOk}
use Rattle.ob_mean.specs.declared.outcome.TrapKind.TheVariants as trap
use Rattle.ob_code.specs.declared.instr.Instr.TheVariants as instr
use Rattle.ob_gen.specs.Code.{line, expr_code, stat_code, list_code, first_code, loop_code, repeat_code, for_code}
use Rattle.ob_gen.specs.Emitted.{holed, holes, guarded_list, branch_piece, body_piece, arm_piece, arms_list}
use Rattle.ob_gen.specs.Known.{names_in}
use Rattle.ob_gen.proofs.emitting.Lists.{code_done, ends_done, fills, fillable}
use Rattle.ob_gen.proofs.emitting.Sequences.{if_tree_code, case_tree_code, while_tree_code, repeat_tree_code, for_tree_code, choice_leads, bodies_lead, arms_lead, branch_emitted, arm_emitted, repeat_emitted, loop_emitted, for_emitted, starts_behind, starts-length}
use Rattle.ob_gen.proofs.statement.+statements.Goals as goal

pub emit_branch-returns-clause-code : goal.emit_branch-returns-clause-code
emit_branch-returns-clause-code t c =
    c.put_at.ensures.code
    ∙ branch_emitted (names_in c.args.known.now) c.args.branch.now c.args.code.now.items _ _ _ _ _ _
    c.in_ok-emit_expr.ensures.code (c.len-guard_end.ensures ∙ c.emit_expr.new.code.ok.0) c.in_ok-put.ensures.code c.in_ok-emit_statements.ensures.code
    (c.len.ensures ∙ c.emit_statements.new.code.ok.0) c.as_slice.ensures

pub emit_arm-returns-clause-code : goal.emit_arm-returns-clause-code
emit_arm-returns-clause-code t c =
    c.put_at.ensures.code
    ∙ arm_emitted (names_in c.args.known.now) c.args.arm.now c.args.code.now.items _ _ _ _ _ _ _ _
    c.in_ok-emit_labels.ensures.code (c.len-labels_end.ensures ∙ c.emit_labels.new.code.ok.0) c.in_ok-put.ensures.code c.in_ok-put-2.ensures.code c.in_ok-emit_statements.ensures.code
    (c.len.ensures ∙ c.emit_statements.new.code.ok.0) c.as_slice.ensures c.as_slice-2.ensures

pub emit_arms-lead_to_end-requires : goal.emit_arms-lead_to_end-requires
emit_arms-lead_to_end-requires t c =
    let N = names_in c.args.known.now in
    let base = c.args.code.now.items in
    fillable 0 0 (arm_piece N) c.args.arms.now base (line 1 0 (instr.Trap trap.Label c.args.line) ∷ []) c.put-2.new.code.items c.deref.result.now
    (code_done (holed 0 0 (arm_piece N)) c.args.arms.now c.loop-arm.arm-index base c.loop-arm.code.items _ _ refl c.loop-arm-test.false c.loop-arm.invariant.code c.in_ok-put-2.ensures.code)
    (ends_done _ _ (arm_piece N) c.args.arms.now c.loop-arm.arm-index base c.loop-arm.ends.items _ c.loop-arm-test.false c.loop-arm.invariant.ends c.args.code.now.ok.0 c.deref.ensures.value)

pub emit_arms-returns-clause-code : goal.emit_arms-returns-clause-code
emit_arms-returns-clause-code t c =
    let N = names_in c.args.known.now in
    let base = c.args.code.now.items in
    c.lead_to_end.ensures.code
    ∙ fills 0 0 (arm_piece N) c.args.arms.now base (line 1 0 (instr.Trap trap.Label c.args.line) ∷ []) c.put-2.new.code.items c.deref.result.now
    (code_done (holed 0 0 (arm_piece N)) c.args.arms.now c.loop-arm.arm-index base c.loop-arm.code.items _ _ refl c.loop-arm-test.false c.loop-arm.invariant.code c.in_ok-put-2.ensures.code)
    (ends_done _ _ (arm_piece N) c.args.arms.now c.loop-arm.arm-index base c.loop-arm.ends.items _ c.loop-arm-test.false c.loop-arm.invariant.ends c.args.code.now.ok.0 c.deref.ensures.value)
    ∙ ap (λ l. base ++ l) (arms_lead N c.args.line c.args.arms.now)

pub emit_bodies-lead_to_end-requires : goal.emit_bodies-lead_to_end-requires
emit_bodies-lead_to_end-requires t c =
    let N = names_in c.args.known.now in
    let base = c.args.code.now.items in
    fillable 0 0 (body_piece N) c.args.branches.now base [] c.loop-branch.code.items c.deref.result.now
    (code_done (holed 0 0 (body_piece N)) c.args.branches.now c.loop-branch.branch-index base c.loop-branch.code.items _ _ refl c.loop-branch-test.false c.loop-branch.invariant.code (sym (append-nil c.loop-branch.code.items)))
    (ends_done _ _ (body_piece N) c.args.branches.now c.loop-branch.branch-index base c.loop-branch.ends.items _ c.loop-branch-test.false c.loop-branch.invariant.ends c.args.code.now.ok.0 c.deref.ensures.value)

pub emit_bodies-returns-clause-code : goal.emit_bodies-returns-clause-code
emit_bodies-returns-clause-code t c =
    let N = names_in c.args.known.now in
    let base = c.args.code.now.items in
    c.lead_to_end.ensures.code
    ∙ fills 0 0 (body_piece N) c.args.branches.now base [] c.loop-branch.code.items c.deref.result.now
    (code_done (holed 0 0 (body_piece N)) c.args.branches.now c.loop-branch.branch-index base c.loop-branch.code.items _ _ refl c.loop-branch-test.false c.loop-branch.invariant.code (sym (append-nil c.loop-branch.code.items)))
    (ends_done _ _ (body_piece N) c.args.branches.now c.loop-branch.branch-index base c.loop-branch.ends.items _ c.loop-branch-test.false c.loop-branch.invariant.ends c.args.code.now.ok.0 c.deref.ensures.value)
    ∙ ap (λ l. base ++ l) (bodies_lead N c.args.branches.now)

pub emit_loop-emit_guards-requires-clause-each : goal.emit_loop-emit_guards-requires-clause-each
emit_loop-emit_guards-requires-clause-each t c =
    ap length (c.deref.ensures.value ∙ c.in_ok-starts.ensures.starts) ∙ starts-length (names_in c.args.known.now) c.args.branches.now (vec_len c.put.new.code)

pub emit_loop-emit_guards-requires-clause-behind : goal.emit_loop-emit_guards-requires-clause-behind
emit_loop-emit_guards-requires-clause-behind t c =
    starts_behind (names_in c.args.known.now) c.args.branches.now c.put.new.code.items c.emit_bodies.new.code.items [] (vec_len c.put.new.code) (vec_len c.put_at.new.code) c.deref.result.now
    c.put.new.code.ok.0 c.in_ok-starts.ensures.code (sym (c.put_at.ensures.long ∙ c.emit_bodies.new.code.ok.0)) (c.deref.ensures.value ∙ c.in_ok-starts.ensures.starts)

pub emit_loop-returns-clause-code : goal.emit_loop-returns-clause-code
emit_loop-returns-clause-code t c =
    subst (λ l. OnOk c.emit_guards.result (c.emit_guards.new.code.items ≡ l))
    (loop_emitted (names_in c.args.known.now) c.args.branches.now c.args.code.now.items c.put.new.code.items c.emit_bodies.new.code.items c.put_at.new.code.items (line 0 0 (instr.Skip 0)) c.len-start.result c.len.result (vec_len c.put_at.new.code) (vec_len c.put.new.code) c.deref.result.now
    (c.len-start.ensures ∙ c.args.code.now.ok.0) c.in_ok-put.ensures.code c.put.new.code.ok.0 c.in_ok-starts.ensures.code (c.len.ensures ∙ c.emit_bodies.new.code.ok.0) c.put_at.ensures.code c.put_at.new.code.ok.0 (c.deref.ensures.value ∙ c.in_ok-starts.ensures.starts))
    c.emit_guards.ensures.code

pub emit_repeat-returns-clause-code : goal.emit_repeat-returns-clause-code
emit_repeat-returns-clause-code t c =
    let again = λ (n : ℕ). line 1 0 (instr.EnterBack n) in
    subst (λ l. OnOk c.put-3.result (c.put-3.new.code.items ≡ l))
    (repeat_emitted (names_in c.args.known.now) c.args.code.now.items _ _ _ c.put-2.new.code.items (c.put-2.new.code.items ++ again (c.len.result - c.len-start.result) ∷ []) (list_code (names_in c.args.known.now) c.args.body.now) (expr_code (names_in c.args.known.now) 0 0 c.args.until.now) c.len-start.result c.len.result
    c.in_ok-put.ensures.code (c.len-start.ensures ∙ c.put.new.code.ok.0) c.in_ok-emit_statements.ensures.code c.in_ok-emit_expr.ensures.code c.in_ok-put-2.ensures.code (c.len.ensures ∙ c.put-2.new.code.ok.0) refl)
    c.put-3.ensures.code

pub emit_for-returns-clause-code : goal.emit_for-returns-clause-code
emit_for-returns-clause-code t c =
    c.put_at.ensures.code
    ∙ for_emitted (names_in c.args.known.now) c.args.head.now c.args.code.now.items _ _ _ _ _ _ _ _ (list_code (names_in c.args.known.now) c.args.body.now) c.root_of.result c.len-start.result c.len-body_end.result c.len-guard_end.result
    c.in_ok-emit_expr.ensures.code c.in_ok-put.ensures.code (c.len-start.ensures ∙ c.put.new.code.ok.0) c.in_ok-put-2.ensures.code c.in_ok-emit_statements.ensures.code c.in_ok-emit_for_step.ensures.code c.in_ok-put-3.ensures.code
    (c.len-body_end.ensures ∙ c.put-3.new.code.ok.0) c.in_ok-emit_for_guard.ensures.code (c.len-guard_end.ensures ∙ c.emit_for_guard.new.code.ok.0) c.in_ok-put-4.ensures.code c.root_of.ensures

pub emit_statement-returns-in_ok-emit_expr-in-Case-clause-code : goal.emit_statement-returns-in_ok-emit_expr-in-Case-clause-code
emit_statement-returns-in_ok-emit_expr-in-Case-clause-code t c =
    let N = names_in c.args.known.now in
    let base = c.args.code.now.items in
    let e = expr_code N 0 0 c.in-Case.e in
    subst (λ l. OnOk c.emit_arms.result (c.emit_arms.new.code.items ≡ l))
    (ap (λ m. m ++ arms_list N c.in-Case.line c.as_slice-in-Case.result.now) c.in_ok-emit_expr-in-Case.ensures.code
    ∙ append_assoc base e (arms_list N c.in-Case.line c.as_slice-in-Case.result.now)
    ∙ ap (λ arms. base ++ (e ++ arms_list N c.in-Case.line arms)) c.as_slice-in-Case.ensures
    ∙ ap (λ l. base ++ l) (sym (case_tree_code N c.in-Case.line c.in-Case.e c.in-Case.arms))
    ∙ ap (λ s. base ++ stat_code N s) (sym c.in-Case.is))
    c.emit_arms.ensures.code

pub emit_statement-lead_to_end-requires : goal.emit_statement-lead_to_end-requires
emit_statement-lead_to_end-requires t c =
    let N = names_in c.args.known.now in
    let base = c.args.code.now.items in
    let last = list_code N c.as_slice-in-If.result.now in
    fillable 0 0 (branch_piece N) c.as_slice.result.now base last c.emit_statements.new.code.items c.deref.result.now
    (c.in_ok-emit_statements-in-If.ensures.code ∙ ap (λ l. l ++ last) c.in_ok-ends-in-If.ensures.code ∙ append_assoc base (holed 0 0 (branch_piece N) c.as_slice.result.now) last)
    (c.deref.ensures.value ∙ c.in_ok-ends-in-If.ensures.ends ∙ ap (λ k. holes k (branch_piece N) c.as_slice.result.now) c.args.code.now.ok.0)

pub emit_statement-returns-in_ok-emit_statements-in-If-clause-code : goal.emit_statement-returns-in_ok-emit_statements-in-If-clause-code
emit_statement-returns-in_ok-emit_statements-in-If-clause-code t c =
    let N = names_in c.args.known.now in
    let base = c.args.code.now.items in
    let last = list_code N c.as_slice-in-If.result.now in
    c.lead_to_end.ensures.code
    ∙ fills 0 0 (branch_piece N) c.as_slice.result.now base last c.emit_statements.new.code.items c.deref.result.now
    (c.in_ok-emit_statements-in-If.ensures.code ∙ ap (λ l. l ++ last) c.in_ok-ends-in-If.ensures.code ∙ append_assoc base (holed 0 0 (branch_piece N) c.as_slice.result.now) last)
    (c.deref.ensures.value ∙ c.in_ok-ends-in-If.ensures.ends ∙ ap (λ k. holes k (branch_piece N) c.as_slice.result.now) c.args.code.now.ok.0)
    ∙ ap (λ l. base ++ l) (choice_leads N c.as_slice.result.now last)
    ∙ ap (λ bs. base ++ first_code (guarded_list N bs) last) c.as_slice.ensures
    ∙ ap (λ r. base ++ first_code (guarded_list N c.in-If.branches) (list_code N r)) c.as_slice-in-If.ensures
    ∙ ap (λ l. base ++ l) (sym (if_tree_code N c.in-If.branches c.in-If.rest))
    ∙ ap (λ s. base ++ stat_code N s) (sym c.in-If.is)

pub emit_statement-returns-in-While-clause-code : goal.emit_statement-returns-in-While-clause-code
emit_statement-returns-in-While-clause-code t c =
    let N = names_in c.args.known.now in
    let base = c.args.code.now.items in
    subst (λ l. OnOk c.emit_loop.result (c.emit_loop.new.code.items ≡ l))
    (ap (λ bs. base ++ loop_code (guarded_list N bs)) c.as_slice-in-While.ensures
    ∙ ap (λ l. base ++ l) (sym (while_tree_code N c.in-While.branches))
    ∙ ap (λ s. base ++ stat_code N s) (sym c.in-While.is))
    c.emit_loop.ensures.code

pub emit_statement-returns-in-Repeat-clause-code : goal.emit_statement-returns-in-Repeat-clause-code
emit_statement-returns-in-Repeat-clause-code t c =
    let N = names_in c.args.known.now in
    let base = c.args.code.now.items in
    subst (λ l. OnOk c.emit_repeat.result (c.emit_repeat.new.code.items ≡ l))
    (ap (λ b. base ++ repeat_code (list_code N b) (expr_code N 0 0 c.in-Repeat.until)) c.as_slice-in-Repeat.ensures
    ∙ ap (λ l. base ++ l) (sym (repeat_tree_code N c.in-Repeat.body c.in-Repeat.until))
    ∙ ap (λ s. base ++ stat_code N s) (sym c.in-Repeat.is))
    c.emit_repeat.ensures.code

pub emit_statement-returns-in-For-clause-code : goal.emit_statement-returns-in-For-clause-code
emit_statement-returns-in-For-clause-code t c =
    let N = names_in c.args.known.now in
    let base = c.args.code.now.items in
    subst (λ l. OnOk c.emit_for.result (c.emit_for.new.code.items ≡ l))
    (ap (λ h. base ++ for_code N h (list_code N c.as_slice-in-For.result.now)) c.get.ensures
    ∙ ap (λ b. base ++ for_code N c.in-For.head (list_code N b)) c.as_slice-in-For.ensures
    ∙ ap (λ l. base ++ l) (sym (for_tree_code N c.in-For.head c.in-For.body))
    ∙ ap (λ s. base ++ stat_code N s) (sym c.in-For.is))
    c.emit_for.ensures.code
