use Rattle.std.proofs.Common.{◌≡◌, ℕ, ℤ, Vec, Global, Ok, Err, Some, None, rules, sym, ap, ◌∙◌, subst, to_z, of_z, to_z-of_z, SFits, w32}
use Rattle.ob_mean.specs.Values.{count, get}
use Rattle.ob_mean.specs.Arithmetic.{apply_one}
use Rattle.ob_mean.specs.Runs.{done, and_then}
use Rattle.ob_mean.specs.Expressions.{value_of, place_of, computed, chained, element, index_in, variable_place}
use Rattle.ob_mean.specs.Control.{arm_for, chosen, looping, repeating}
use Rattle.ob_mean.specs.Statements.{action_meaning, stat_meaning, list_meaning, case_body, text_stored, for_loop}
use Rattle.ob_reference.specs.Branches.{branch_pieces, arm_pieces, for_pieces, found_arm, PassesAll}
use Rattle.ob_reference_store.specs.Kept.{place_of as path_place}
use Rattle.ob_reference.specs.Lists.{operation_pieces, called}
use Rattle.ob_reference_store.specs.States.{Follows, scope_in, supply_in, world_in}
use Rattle.ob_reference.proofs.Trees.{unary_is, chain_is, element_is, function_is}
use Rattle.ob_reference_store.proofs.Follow.{carry, halts, finished, none_of}
use Rattle.ob_reference.proofs.Sequences.{if_is, case_is, for_is, arm_found, arm_missing}
use Rattle.ob_reference.proofs.Rounds.{again, over, fails}
use Rattle.ob_reference.proofs.+running.Goals as goal

pub expression::place-returns-in_err-index-in-Element : goal.expression::place-returns-in_err-index-in-Element
expression::place-returns-in_err-index-in-Element t c =
    let scope = scope_in c.args.site.program.now c.args.site.at in
    let n = supply_in c.args.state.now in
    let w = world_in c.args.state.now in
    let same : Err c.in_err-index-in-Element.field-0.0 ≡ c.from_residual-in_err-index-in-Element.result = search rules in
    subst (λ r. Follows (λ (path : Vec ℕ Global). path_place path.items) r c.value.new.state (place_of scope c.args.d.now n w)) same
    (halts (λ (v : ℤ). v) (λ (path : Vec ℕ Global). path_place path.items) c.in_err-index-in-Element.field-0.0 c.value.new.state
    (value_of scope c.get-in-Element.result.now (supply_in c.place.new.state) (world_in c.place.new.state))
    (λ i n2 w2. element scope (index_in i (count (get w2.store (path_place c.in_ok-array-in-Element.array.items)))) (path_place c.in_ok-array-in-Element.array.items) c.in-Element.line n2 w2) _
    (ap (λ d. place_of scope d n w) c.in-Element.is ∙ element_is scope c.in-Element.array c.in-Element.line c.in-Element.index n w
    ∙ ap (λ a. and_then (place_of scope a n w) (λ p n1 w1. and_then (value_of scope c.in-Element.index n1 w1) (λ i n2 w2. element scope (index_in i (count (get w2.store p))) p c.in-Element.line n2 w2))) (sym c.get.ensures)
    ∙ ap (λ r. and_then r (λ p n1 w1. and_then (value_of scope c.in-Element.index n1 w1) (λ i n2 w2. element scope (index_in i (count (get w2.store p))) p c.in-Element.line n2 w2))) c.in_ok-array-in-Element.ensures
    ∙ ap (λ e. and_then (value_of scope e (supply_in c.place.new.state) (world_in c.place.new.state)) (λ i n2 w2. element scope (index_in i (count (get w2.store (path_place c.in_ok-array-in-Element.array.items)))) (path_place c.in_ok-array-in-Element.array.items) c.in-Element.line n2 w2)) (sym c.get-in-Element.ensures))
    c.in_err-index-in-Element.ensures)

pub expression::place-returns-in_ok-index-in-Element : goal.expression::place-returns-in_ok-index-in-Element
expression::place-returns-in_ok-index-in-Element t c =
    let scope = scope_in c.args.site.program.now c.args.site.at in
    let n = supply_in c.args.state.now in
    let w = world_in c.args.state.now in
    let fits : SFits w32 c.in_ok-index-in-Element.index = search rules in
    carry _ c.element.result c.value.new.state _ _
    (ap (λ d. place_of scope d n w) c.in-Element.is ∙ element_is scope c.in-Element.array c.in-Element.line c.in-Element.index n w
    ∙ ap (λ a. and_then (place_of scope a n w) (λ p n1 w1. and_then (value_of scope c.in-Element.index n1 w1) (λ i n2 w2. element scope (index_in i (count (get w2.store p))) p c.in-Element.line n2 w2))) (sym c.get.ensures)
    ∙ ap (λ r. and_then r (λ p n1 w1. and_then (value_of scope c.in-Element.index n1 w1) (λ i n2 w2. element scope (index_in i (count (get w2.store p))) p c.in-Element.line n2 w2))) c.in_ok-array-in-Element.ensures
    ∙ ap (λ e. and_then (value_of scope e (supply_in c.place.new.state) (world_in c.place.new.state)) (λ i n2 w2. element scope (index_in i (count (get w2.store (path_place c.in_ok-array-in-Element.array.items)))) (path_place c.in_ok-array-in-Element.array.items) c.in-Element.line n2 w2)) (sym c.get-in-Element.ensures)
    ∙ ap (λ r. and_then r (λ i n2 w2. element scope (index_in i (count (get w2.store (path_place c.in_ok-array-in-Element.array.items)))) (path_place c.in_ok-array-in-Element.array.items) c.in-Element.line n2 w2)) c.in_ok-index-in-Element.ensures)
    (simp to_z-of_z at (c.element.ensures c.args.site.program.now))

pub expression::value-returns-in_ok-x-in-Unary : goal.expression::value-returns-in_ok-x-in-Unary
expression::value-returns-in_ok-x-in-Unary t c =
    let scope = scope_in c.args.site.program.now c.args.site.at in
    let n = supply_in c.args.state.now in
    let w = world_in c.args.state.now in
    let fits : SFits w32 c.in_ok-x-in-Unary.x = search rules in
    carry _ c.finish.result c.value.new.state _ _
    (ap (λ e. value_of scope e n w) c.in-Unary.is ∙ unary_is scope c.in-Unary.operator c.in-Unary.line c.in-Unary.operand n w
    ∙ ap (λ a. and_then (value_of scope a n w) (λ x n1 w1. computed scope (apply_one c.in-Unary.operator x) c.in-Unary.line n1 w1)) (sym c.get.ensures)
    ∙ ap (λ r. and_then r (λ x n1 w1. computed scope (apply_one c.in-Unary.operator x) c.in-Unary.line n1 w1)) c.in_ok-x-in-Unary.ensures)
    (simp to_z-of_z at (finished scope _ c.apply_one.result c.finish.result c.in-Unary.line c.value.new.state c.apply_one.ensures c.finish.ensures))

pub expression::value-returns-in_ok-x-in-Chain : goal.expression::value-returns-in_ok-x-in-Chain
expression::value-returns-in_ok-x-in-Chain t c =
    let scope = scope_in c.args.site.program.now c.args.site.at in
    let n = supply_in c.args.state.now in
    let w = world_in c.args.state.now in
    let fits : SFits w32 c.in_ok-x-in-Chain.x = search rules in
    carry _ c.chain.result c.chain.new.state _ _
    (ap (λ e. value_of scope e n w) c.in-Chain.is ∙ chain_is scope c.in-Chain.first c.in-Chain.others n w
    ∙ ap (λ a. and_then (value_of scope a n w) (λ x n1 w1. chained (operation_pieces scope c.in-Chain.others) x n1 w1)) (sym c.get-in-Chain.ensures)
    ∙ ap (λ r. and_then r (λ x n1 w1. chained (operation_pieces scope c.in-Chain.others) x n1 w1)) c.in_ok-x-in-Chain.ensures
    ∙ ap (λ l. chained (operation_pieces scope l) c.in_ok-x-in-Chain.x (supply_in c.value-in-Chain.new.state) (world_in c.value-in-Chain.new.state)) (sym c.as_slice.ensures))
    (simp to_z-of_z at c.chain.ensures)

pub expression::value-returns-in_err-x-in-Unary : goal.expression::value-returns-in_err-x-in-Unary
expression::value-returns-in_err-x-in-Unary t c =
    let scope = scope_in c.args.site.program.now c.args.site.at in
    let n = supply_in c.args.state.now in
    let w = world_in c.args.state.now in
    let same : Err c.in_err-x-in-Unary.field-0.0 ≡ c.from_residual-in_err-x-in-Unary.result = search rules in
    subst (λ r. Follows (λ (v : ℤ). v) r c.value.new.state (value_of scope c.args.e.now n w)) same
    (halts (λ (v : ℤ). v) (λ (v : ℤ). v) c.in_err-x-in-Unary.field-0.0 c.value.new.state
    (value_of scope c.get.result.now n w)
    (λ x n1 w1. computed scope (apply_one c.in-Unary.operator x) c.in-Unary.line n1 w1) _
    (ap (λ e. value_of scope e n w) c.in-Unary.is ∙ unary_is scope c.in-Unary.operator c.in-Unary.line c.in-Unary.operand n w
    ∙ ap (λ a. and_then (value_of scope a n w) (λ x n1 w1. computed scope (apply_one c.in-Unary.operator x) c.in-Unary.line n1 w1)) (sym c.get.ensures))
    c.in_err-x-in-Unary.ensures)

pub statement::statement-returns-in-None : goal.statement::statement-returns-in-None
statement::statement-returns-in-None t c =
    let scope = scope_in c.args.site.program.now c.args.site.at in
    let n = supply_in c.args.state.now in
    let w = world_in c.args.state.now in
    let passes : PassesAll scope c.as_slice.result.now n w c.first_branch.new.state = none_of _ _ _ c.in-None.is c.in_ok-body-in-If.ensures in
    carry _ c.statements-in-None.result c.statements-in-None.new.state _ _
    (ap (λ s. stat_meaning scope s n w) c.in-If.is ∙ if_is scope c.in-If.branches c.in-If.rest n w
    ∙ ap (λ bs. chosen (branch_pieces scope bs) (list_meaning scope c.in-If.rest) n w) (sym c.as_slice.ensures)
    ∙ passes (λ body. body) (list_meaning scope c.in-If.rest)
    ∙ ap (λ l. list_meaning scope l (supply_in c.first_branch.new.state) (world_in c.first_branch.new.state)) (sym c.as_slice-in-None.ensures))
    c.statements-in-None.ensures

pub statement::statement-returns-in-Some-arm_for : goal.statement::statement-returns-in-Some-arm_for
statement::statement-returns-in-Some-arm_for t c =
    let scope = scope_in c.args.site.program.now c.args.site.at in
    let n = supply_in c.args.state.now in
    let w = world_in c.args.state.now in
    let label = c.in_ok-label-in-Case.label in
    let fits : SFits w32 c.in_ok-label-in-Case.label = search rules in
    let found : found_arm c.as_slice-in-Case.result.now (to_z w32 (of_z w32 c.in_ok-label-in-Case.label)) ≡ Some c.in-Some-arm_for.body.now = c.in-Some-arm_for.ensures in
    carry _ c.statements-in-Some-arm_for.result c.statements-in-Some-arm_for.new.state _ _
    (ap (λ s. stat_meaning scope s n w) c.in-Case.is ∙ case_is scope c.in-Case.line c.in-Case.e c.in-Case.arms n w
    ∙ ap (λ r. and_then r (λ v n1 w1. case_body scope c.in-Case.line (arm_for (arm_pieces scope c.in-Case.arms) v) n1 w1)) c.in_ok-label-in-Case.ensures
    ∙ ap (λ o. case_body scope c.in-Case.line o (supply_in c.value.new.state) (world_in c.value.new.state))
    (ap (λ xs. arm_for (arm_pieces scope xs) c.in_ok-label-in-Case.label) (sym c.as_slice-in-Case.ensures)
    ∙ arm_found scope c.as_slice-in-Case.result.now c.in_ok-label-in-Case.label c.in-Some-arm_for.body.now (simp to_z-of_z at found)))
    c.statements-in-Some-arm_for.ensures

pub statement::statement-returns-in-None-arm_for : goal.statement::statement-returns-in-None-arm_for
statement::statement-returns-in-None-arm_for t c =
    let scope = scope_in c.args.site.program.now c.args.site.at in
    let n = supply_in c.args.state.now in
    let w = world_in c.args.state.now in
    let fits : SFits w32 c.in_ok-label-in-Case.label = search rules in
    let missing : found_arm c.as_slice-in-Case.result.now (to_z w32 (of_z w32 c.in_ok-label-in-Case.label)) ≡ None = c.in-None-arm_for.ensures in
    ap (λ s. stat_meaning scope s n w) c.in-Case.is ∙ case_is scope c.in-Case.line c.in-Case.e c.in-Case.arms n w
    ∙ ap (λ r. and_then r (λ v n1 w1. case_body scope c.in-Case.line (arm_for (arm_pieces scope c.in-Case.arms) v) n1 w1)) c.in_ok-label-in-Case.ensures
    ∙ ap (λ o. case_body scope c.in-Case.line o (supply_in c.value.new.state) (world_in c.value.new.state))
    (ap (λ xs. arm_for (arm_pieces scope xs) c.in_ok-label-in-Case.label) (sym c.as_slice-in-Case.ensures)
    ∙ arm_missing scope c.as_slice-in-Case.result.now c.in_ok-label-in-Case.label (simp to_z-of_z at missing))

pub action::action-returns-in_ok-path-in-AssignText : goal.action::action-returns-in_ok-path-in-AssignText
action::action-returns-in_ok-path-in-AssignText t c =
    let scope = scope_in c.args.site.program.now c.args.site.at in
    let n = supply_in c.args.state.now in
    let w = world_in c.args.state.now in
    carry _ c.store_text.result c.store_text.new.state _ _
    (ap (λ a. action_meaning scope a n w) c.in-AssignText.is
    ∙ ap (λ r. and_then r (λ p n1 w1. text_stored scope p c.in-AssignText.line c.in-AssignText.text n1 w1)) c.in_ok-path-in-AssignText.ensures
    ∙ ap (λ l. text_stored scope (path_place c.in_ok-path-in-AssignText.path.items) c.in-AssignText.line l (supply_in c.place-in-AssignText.new.state) (world_in c.place-in-AssignText.new.state)) (sym c.as_slice.ensures)
    ∙ ap (λ q. text_stored scope (path_place q) c.in-AssignText.line c.as_slice.result.now (supply_in c.place-in-AssignText.new.state) (world_in c.place-in-AssignText.new.state)) (sym c.deref-in-AssignText.ensures.value))
    (c.store_text.ensures c.args.site.program.now)

pub repetition::for_rounds-returns-in_err-for_round : goal.repetition::for_rounds-returns-in_err-for_round
repetition::for_rounds-returns-in_err-for_round t c =
    let loop = looping (for_pieces (scope_in c.args.site.program.now c.args.site.at) c.args.head.now (path_place c.args.path.now) c.args.body.now) in
    let same : Err c.in_err-for_round.field-0.0 ≡ c.from_residual.result = search rules in
    fails loop (λ (_ : Unit {0}). done) _ c.args.state.now.turns c.loop.counter c.loop.state c.for_round.new.state c.in_err-for_round.field-0.0 c.from_residual.result c.loop-test.true c.loop.invariant c.in_err-for_round.ensures same

pub repetition::for_rounds-returns-then-not-branch : goal.repetition::for_rounds-returns-then-not-branch
repetition::for_rounds-returns-then-not-branch t c =
    let loop = looping (for_pieces (scope_in c.args.site.program.now c.args.site.at) c.args.head.now (path_place c.args.path.now) c.args.body.now) in
    over loop (loop c.args.state.now.turns (supply_in c.args.state.now) (world_in c.args.state.now)) c.args.state.now.turns c.loop.counter c.loop.state c.for_round.new.state (Ok c.in_ok-for_round.field-0) c.loop-test.true c.loop.invariant (ap Ok c.if-not-branch.true) c.in_ok-for_round.ensures

pub repetition::for_rounds-loop-preserved : goal.repetition::for_rounds-loop-preserved
repetition::for_rounds-loop-preserved t c =
    let loop = looping (for_pieces (scope_in c.args.site.program.now c.args.site.at) c.args.head.now (path_place c.args.path.now) c.args.body.now) in
    again loop (loop c.args.state.now.turns (supply_in c.args.state.now) (world_in c.args.state.now)) c.args.state.now.turns c.loop.counter c.loop.state c.for_round.new.state (Ok c.in_ok-for_round.field-0) c.loop-test.true c.loop.invariant (ap Ok c.if-not-branch.false) c.in_ok-for_round.ensures

pub repetition::repeat_loop-returns-in_err-repeat_round : goal.repetition::repeat_loop-returns-in_err-repeat_round
repetition::repeat_loop-returns-in_err-repeat_round t c =
    let loop = repeating (list_meaning (scope_in c.args.site.program.now c.args.site.at) c.args.body.now) (value_of (scope_in c.args.site.program.now c.args.site.at) c.args.until.now) in
    let same : Err c.in_err-repeat_round.field-0.0 ≡ c.from_residual.result = search rules in
    fails loop (λ (_ : Unit {0}). done) _ c.args.state.now.turns c.loop.counter c.loop.state c.repeat_round.new.state c.in_err-repeat_round.field-0.0 c.from_residual.result c.loop-test.true c.loop.invariant c.in_err-repeat_round.ensures same

pub repetition::repeat_loop-returns-then-not-branch : goal.repetition::repeat_loop-returns-then-not-branch
repetition::repeat_loop-returns-then-not-branch t c =
    let loop = repeating (list_meaning (scope_in c.args.site.program.now c.args.site.at) c.args.body.now) (value_of (scope_in c.args.site.program.now c.args.site.at) c.args.until.now) in
    over loop (loop c.args.state.now.turns (supply_in c.args.state.now) (world_in c.args.state.now)) c.args.state.now.turns c.loop.counter c.loop.state c.repeat_round.new.state (Ok c.in_ok-repeat_round.field-0) c.loop-test.true c.loop.invariant (ap Ok c.if-not-branch.true) c.in_ok-repeat_round.ensures

pub repetition::repeat_loop-loop-preserved : goal.repetition::repeat_loop-loop-preserved
repetition::repeat_loop-loop-preserved t c =
    let loop = repeating (list_meaning (scope_in c.args.site.program.now c.args.site.at) c.args.body.now) (value_of (scope_in c.args.site.program.now c.args.site.at) c.args.until.now) in
    again loop (loop c.args.state.now.turns (supply_in c.args.state.now) (world_in c.args.state.now)) c.args.state.now.turns c.loop.counter c.loop.state c.repeat_round.new.state (Ok c.in_ok-repeat_round.field-0) c.loop-test.true c.loop.invariant (ap Ok c.if-not-branch.false) c.in_ok-repeat_round.ensures

pub repetition::while_loop-loop-preserved : goal.repetition::while_loop-loop-preserved
repetition::while_loop-loop-preserved t c =
    let loop = looping (branch_pieces (scope_in c.args.site.program.now c.args.site.at) c.args.branches.now) in
    again loop (loop c.args.state.now.turns (supply_in c.args.state.now) (world_in c.args.state.now)) c.args.state.now.turns c.loop.counter c.loop.state c.while_round.new.state (Ok c.in_ok-while_round.field-0) c.loop-test.true c.loop.invariant (ap Ok c.if-not-branch.false) c.in_ok-while_round.ensures

pub statement::statement-returns-in-For : goal.statement::statement-returns-in-For
statement::statement-returns-in-For t c =
    let scope = scope_in c.args.site.program.now c.args.site.at in
    let n = supply_in c.args.state.now in
    let w = world_in c.args.state.now in
    carry _ c.for_loop.result c.for_loop.new.state _ _
    (ap (λ s. stat_meaning scope s n w) c.in-For.is ∙ for_is scope c.in-For.head c.in-For.body n w
    ∙ ap (λ l. for_loop scope c.in-For.head (variable_place scope c.in-For.head.variable w.store) (list_meaning scope l) n w) (sym c.as_slice-in-For.ensures)
    ∙ ap (λ h. for_loop scope h (variable_place scope h.variable w.store) (list_meaning scope c.as_slice-in-For.result.now) n w) (sym c.get.ensures))
    c.for_loop.ensures

pub expression::value-returns-in-Function : goal.expression::value-returns-in-Function
expression::value-returns-in-Function t c =
    let scope = scope_in c.args.site.program.now c.args.site.at in
    let n = supply_in c.args.state.now in
    let w = world_in c.args.state.now in
    carry _ c.function.result c.function.new.state _ _
    (ap (λ e. value_of scope e n w) c.in-Function.is ∙ function_is scope c.in-Function.callee c.in-Function.line c.in-Function.arguments n w
    ∙ ap (λ l. called scope c.in-Function.callee c.in-Function.line l n w) (sym c.as_slice-in-Function.ensures))
    c.function.ensures
