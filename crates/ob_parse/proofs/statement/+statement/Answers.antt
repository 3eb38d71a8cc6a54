use Rattle.std.proofs.Common.{arith, ap, ◌∙◌, ◌≡◌, ◌++◌, ◌∷◌, [], Ok, Err}
use Rattle.std.proofs.lemmas.Result.{err_from_is_err_and}
use Rattle.ob_parse_expression.specs.Reading.{separated}
use Rattle.ob_parse_expression.proofs.Loop.{looped_init, after_step, ends, then_ends, loop_fails, loop_goes, loop_done, loop_done_one}
use Rattle.ob_parse.proofs.StatementLoop.{not_opened, opened}
use Rattle.ob_parse.proofs.statement.+statement.Goals as goal

pub elsifs-loop-others-init : goal.elsifs-loop-others-init
elsifs-loop-others-init t c = record { read = looped_init _ _ _; shorter = omega arith }

pub elsifs-returns-in_err-next-clause-read : goal.elsifs-returns-in_err-next-clause-read
elsifs-returns-in_err-next-clause-read t c =
    let p = err_from_is_err_and c.from_residual.result c.from_residual.ensures.1 in
    rw (p.1, p.2) (ends _ _ _ _ _ _ _ c.loop-others.invariant.read c.in_err-next.ensures.read)

pub elsifs-loop-others-preserved : goal.elsifs-loop-others-preserved
elsifs-loop-others-preserved t c =
    let taken = rw c.in-Some.is at c.in_ok-next.ensures.taken in
    record {
      read = loop_goes _ _ _ _ _ _ _ _ _ c.loop-others.invariant.read c.in_ok-next.ensures.read c.in-Some.is taken c.in_ok-push.ensures.ok;
      shorter = omega arith;
    }

pub elsifs-returns-clause-read : goal.elsifs-returns-clause-read
elsifs-returns-clause-read t c = loop_done _ _ _ _ _ _ _ c.loop-others.invariant.read c.new-others.ensures c.in_ok-next.ensures.read c.in_default.is

pub statements-returns-in_err-inside-clause-read : goal.statements-returns-in_err-inside-clause-read
statements-returns-in_err-inside-clause-read t c =
    let p = err_from_is_err_and c.from_residual.result c.from_residual.ensures.1 in
    rw (p.1, p.2) (not_opened c.args.levels _ _ _ _ c.in_err-inside.ensures.read)

pub statements-returns-in_err-statement-clause-read : goal.statements-returns-in_err-statement-clause-read
unfolding separated
statements-returns-in_err-statement-clause-read t c =
    let p = err_from_is_err_and c.from_residual-in_err-statement.result c.from_residual-in_err-statement.ensures.1 in
    rw (p.1, p.2) (opened c.args.levels c.in_ok-inside.inside c.args.parser.now.rest.now (Err c.in_err-statement.field-0.0) c.statement.new.parser.rest.now c.in_ok-inside.ensures.inside (then_ends _ _ _ _ c.in_err-statement.ensures.read))

pub statements-loop-statements-init : goal.statements-loop-statements-init
statements-loop-statements-init t c = record { read = looped_init _ _ _; shorter = omega arith }

pub statements-returns-in_err-next-clause-read : goal.statements-returns-in_err-next-clause-read
unfolding separated
statements-returns-in_err-next-clause-read t c =
    let p = err_from_is_err_and c.from_residual-in_err-next.result c.from_residual-in_err-next.ensures.1 in
    rw (p.1, p.2) (opened c.args.levels c.in_ok-inside.inside c.args.parser.now.rest.now (Err c.in_err-next.field-0.0) c.next_statement.new.parser.rest.now c.in_ok-inside.ensures.inside (after_step _ _ _ _ _ _ c.in_ok-statement.ensures.read (loop_fails _ _ _ _ _ _ _ _ c.loop-statements.invariant.read c.in_err-next.ensures.read)))

pub statements-loop-statements-preserved : goal.statements-loop-statements-preserved
statements-loop-statements-preserved t c =
    let taken = rw c.in-Some.is at c.in_ok-next.ensures.taken in
    record {
      read = loop_goes _ _ _ _ _ _ _ _ _ c.loop-statements.invariant.read c.in_ok-next.ensures.read c.in-Some.is taken c.in_ok-push-2.ensures.ok;
      shorter = omega arith;
    }

pub statements-returns-clause-read : goal.statements-returns-clause-read
unfolding separated
statements-returns-clause-read t c =
    let one : c.push.new.self ≡ c.in_ok-statement.field-0 ∷ [] = c.in_ok-push.ensures.ok ∙ ap (λ xs. xs ++ c.in_ok-statement.field-0 ∷ []) c.new-statements.ensures in
    let all = loop_done_one _ _ _ _ _ _ _ _ c.loop-statements.invariant.read one c.in_ok-next.ensures.read c.in_default.is in
    opened c.args.levels c.in_ok-inside.inside c.args.parser.now.rest.now (Ok c.loop-statements.statements) _ c.in_ok-inside.ensures.inside (rw (c.in_ok-statement.ensures.read) all)

pub cases-loop-cases-init : goal.cases-loop-cases-init
cases-loop-cases-init t c = record { read = looped_init _ _ _; shorter = omega arith }

pub cases-returns-in_err-next-clause-read : goal.cases-returns-in_err-next-clause-read
unfolding separated
cases-returns-in_err-next-clause-read t c =
    let p = err_from_is_err_and c.from_residual-in_err-next.result c.from_residual-in_err-next.ensures.1 in
    rw (p.1, p.2) (after_step _ _ _ _ _ _ c.in_ok-case.ensures.read (loop_fails _ _ _ _ _ _ _ _ c.loop-cases.invariant.read c.in_err-next.ensures.read))

pub cases-loop-cases-preserved : goal.cases-loop-cases-preserved
cases-loop-cases-preserved t c =
    let taken = rw c.in-Some.is at c.in_ok-next.ensures.taken in
    record {
      read = loop_goes _ _ _ _ _ _ _ _ _ c.loop-cases.invariant.read c.in_ok-next.ensures.read c.in-Some.is taken c.in_ok-push-2.ensures.ok;
      shorter = omega arith;
    }

pub cases-returns-clause-read : goal.cases-returns-clause-read
unfolding separated
cases-returns-clause-read t c =
    let one : c.push.new.self ≡ c.in_ok-case.field-0 ∷ [] = c.in_ok-push.ensures.ok ∙ ap (λ xs. xs ++ c.in_ok-case.field-0 ∷ []) c.new-cases.ensures in
    let all = loop_done_one _ _ _ _ _ _ _ _ c.loop-cases.invariant.read one c.in_ok-next.ensures.read c.in_default.is in
    rw (c.in_ok-case.ensures.read) all
