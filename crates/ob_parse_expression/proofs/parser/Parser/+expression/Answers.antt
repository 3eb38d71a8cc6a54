use Rattle.std.proofs.Common.{arith, ap, ◌∙◌, ◌≡◌, ◌++◌, ◌∷◌, []}
use Rattle.std.proofs.lemmas.Result.{err_from_is_err_and}
use Rattle.ob_parse_expression.specs.ExpressionReading.{exprs}
use Rattle.ob_parse_expression.proofs.Loop.{looped_init, after_step, ends, loop_fails, loop_goes, loop_done, loop_done_one}
use Rattle.ob_parse_expression.proofs.parser.Parser.+expression.Goals as goal

pub added_terms-loop-items-init : goal.added_terms-loop-items-init
added_terms-loop-items-init t c = record { read = looped_init _ _ _; shorter = omega arith }

pub added_terms-returns-in_err-next-clause-read : goal.added_terms-returns-in_err-next-clause-read
added_terms-returns-in_err-next-clause-read t c =
    let p = err_from_is_err_and c.from_residual.result c.from_residual.ensures.1 in
    rw (p.1, p.2) (ends _ _ _ _ _ _ _ c.loop-items.invariant.read c.in_err-next.ensures.read)

pub added_terms-loop-items-preserved : goal.added_terms-loop-items-preserved
added_terms-loop-items-preserved t c =
    let taken = rw c.in-Some.is at c.in_ok-next.ensures.taken in
    record {
      read = loop_goes _ _ _ _ _ _ _ _ _ c.loop-items.invariant.read c.in_ok-next.ensures.read c.in-Some.is taken c.in_ok-push.ensures.ok;
      shorter = omega arith;
    }

pub added_terms-returns-clause-read : goal.added_terms-returns-clause-read
added_terms-returns-clause-read t c = loop_done _ _ _ _ _ _ _ c.loop-items.invariant.read c.new-items.ensures c.in_ok-next.ensures.read c.in_default.is

pub next_factors-loop-items-init : goal.next_factors-loop-items-init
next_factors-loop-items-init t c = record { read = looped_init _ _ _; shorter = omega arith }

pub next_factors-returns-in_err-next-clause-read : goal.next_factors-returns-in_err-next-clause-read
next_factors-returns-in_err-next-clause-read t c =
    let p = err_from_is_err_and c.from_residual.result c.from_residual.ensures.1 in
    rw (p.1, p.2) (ends _ _ _ _ _ _ _ c.loop-items.invariant.read c.in_err-next.ensures.read)

pub next_factors-loop-items-preserved : goal.next_factors-loop-items-preserved
next_factors-loop-items-preserved t c =
    let taken = rw c.in-Some.is at c.in_ok-next.ensures.taken in
    record {
      read = loop_goes _ _ _ _ _ _ _ _ _ c.loop-items.invariant.read c.in_ok-next.ensures.read c.in-Some.is taken c.in_ok-push.ensures.ok;
      shorter = omega arith;
    }

pub next_factors-returns-clause-read : goal.next_factors-returns-clause-read
next_factors-returns-clause-read t c = loop_done _ _ _ _ _ _ _ c.loop-items.invariant.read c.new-items.ensures c.in_ok-next.ensures.read c.in_default.is

pub selectors-loop-items-init : goal.selectors-loop-items-init
selectors-loop-items-init t c = record { read = looped_init _ _ _; shorter = omega arith }

pub selectors-returns-in_err-next-clause-read : goal.selectors-returns-in_err-next-clause-read
selectors-returns-in_err-next-clause-read t c =
    let p = err_from_is_err_and c.from_residual.result c.from_residual.ensures.1 in
    rw (p.1, p.2) (ends _ _ _ _ _ _ _ c.loop-items.invariant.read c.in_err-next.ensures.read)

pub selectors-loop-items-preserved : goal.selectors-loop-items-preserved
selectors-loop-items-preserved t c =
    let taken = rw c.in-Some.is at c.in_ok-next.ensures.taken in
    record {
      read = loop_goes _ _ _ _ _ _ _ _ _ c.loop-items.invariant.read c.in_ok-next.ensures.read c.in-Some.is taken c.in_ok-push.ensures.ok;
      shorter = omega arith;
    }

pub selectors-returns-clause-read : goal.selectors-returns-clause-read
selectors-returns-clause-read t c = loop_done _ _ _ _ _ _ _ c.loop-items.invariant.read c.new-items.ensures c.in_ok-next.ensures.read c.in_default.is

pub exprs-loop-exprs-init : goal.exprs-loop-exprs-init
exprs-loop-exprs-init t c = record { read = looped_init _ _ _; shorter = omega arith }

pub exprs-returns-in_err-next-clause-read : goal.exprs-returns-in_err-next-clause-read
unfolding exprs
exprs-returns-in_err-next-clause-read t c =
    let p = err_from_is_err_and c.from_residual-in_err-next.result c.from_residual-in_err-next.ensures.1 in
    rw (p.1, p.2) (after_step _ _ _ _ _ _ c.in_ok-expr.ensures.read (loop_fails _ _ _ _ _ _ _ _ c.loop-exprs.invariant.read c.in_err-next.ensures.read))

pub exprs-loop-exprs-preserved : goal.exprs-loop-exprs-preserved
exprs-loop-exprs-preserved t c =
    let taken = rw c.in-Some.is at c.in_ok-next.ensures.taken in
    record {
      read = loop_goes _ _ _ _ _ _ _ _ _ c.loop-exprs.invariant.read c.in_ok-next.ensures.read c.in-Some.is taken c.in_ok-push-2.ensures.ok;
      shorter = omega arith;
    }

pub exprs-returns-clause-read : goal.exprs-returns-clause-read
unfolding exprs
exprs-returns-clause-read t c =
    let one : c.push.new.self ≡ c.in_ok-expr.field-0 ∷ [] = c.in_ok-push.ensures.ok ∙ ap (λ xs. xs ++ c.in_ok-expr.field-0 ∷ []) c.new-exprs.ensures in
    let all = loop_done_one _ _ _ _ _ _ _ _ c.loop-exprs.invariant.read one c.in_ok-next.ensures.read c.in_default.is in
    rw (c.in_ok-expr.ensures.read) all
