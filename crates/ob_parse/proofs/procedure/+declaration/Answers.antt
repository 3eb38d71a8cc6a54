use Rattle.std.proofs.Common.{arith}
use Rattle.std.proofs.lemmas.Result.{err_from_is_err_and}
use Rattle.ob_parse_expression.proofs.Loop.{looped_init, ends, loop_goes, loop_done}
use Rattle.ob_parse.proofs.procedure.+declaration.Goals as goal

pub procedures-loop-items-init : goal.procedures-loop-items-init
procedures-loop-items-init t c = record { read = looped_init _ _ _; shorter = omega arith }

pub procedures-returns-in_err-next-clause-read : goal.procedures-returns-in_err-next-clause-read
procedures-returns-in_err-next-clause-read t c =
    let p = err_from_is_err_and c.from_residual.result c.from_residual.ensures.1 in
    rw (p.1, p.2) (ends _ _ _ _ _ _ _ c.loop-items.invariant.read c.in_err-next.ensures.read)

pub procedures-loop-items-preserved : goal.procedures-loop-items-preserved
procedures-loop-items-preserved t c =
    let taken = rw c.in-Some.is at c.in_ok-next.ensures.taken in
    record {
      read = loop_goes _ _ _ _ _ _ _ _ _ c.loop-items.invariant.read c.in_ok-next.ensures.read c.in-Some.is taken c.in_ok-push.ensures.ok;
      shorter = omega arith;
    }

pub procedures-returns-clause-read : goal.procedures-returns-clause-read
procedures-returns-clause-read t c = loop_done _ _ _ _ _ _ _ c.loop-items.invariant.read c.new-items.ensures c.in_ok-next.ensures.read c.in_default.is
