use Rattle.std.proofs.Common.{arith}
use Rattle.std.proofs.lemmas.Result.{err_from_is_err_and}
use Rattle.ob_parse_expression.proofs.Loop.{looped_init, ends, loop_goes, loop_done}
use Rattle.ob_parse.proofs.declaration.declarations.Goals as goal

pub loop-items-init : goal.loop-items-init
loop-items-init g c = record { read = looped_init _ _ _; shorter = omega arith }

pub returns-in_err-next-clause-read : goal.returns-in_err-next-clause-read
returns-in_err-next-clause-read g c =
    let p = err_from_is_err_and c.from_residual.result c.from_residual.ensures.1 in
    rw (p.1, p.2) (ends _ _ _ _ _ _ _ c.loop-items.invariant.read c.in_err-next.ensures.read)

pub loop-items-preserved : goal.loop-items-preserved
loop-items-preserved g c =
    let taken = rw c.in-Some.is at c.in_ok-next.ensures.taken in
    record {
      read = loop_goes _ _ _ _ _ _ _ _ _ c.loop-items.invariant.read c.in_ok-next.ensures.read c.in-Some.is taken c.in_ok-push.ensures.ok;
      shorter = omega arith;
    }

pub returns-clause-read : goal.returns-clause-read
returns-clause-read g c = loop_done _ _ _ _ _ _ _ c.loop-items.invariant.read c.new-items.ensures c.in_ok-next.ensures.read c.in_default.is
