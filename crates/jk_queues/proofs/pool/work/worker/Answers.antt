use Rattle.std.proofs.Common.{[], ◌∷◌, ◌++◌, refl}
use Rattle.jk_queues.proofs.Works.{none_done, done_on}
use Rattle.jk_queues.proofs.pool.work.worker.Goals as goal

pub loop-init : goal.loop-init
loop-init g c = ([], none_done c.args.end c.args.end refl refl (refl, refl, refl))

pub loop-preserved-in-Worked : goal.loop-preserved-in-Worked
loop-preserved-in-Worked g c = let round = c.in-Worked.ensures in (c.loop.invariant.0 ++ round.0 ∷ [], done_on c.loop.invariant.0 (round.0 ∷ []) [] c.args.end c.loop.end c.round.new.self c.loop.invariant.1 round.1)

pub loop-preserved : goal.loop-preserved
loop-preserved g c = (c.loop.invariant.0 ++ [], done_on c.loop.invariant.0 [] [] c.args.end c.loop.end c.round.new.self c.loop.invariant.1 c.in-Idle.ensures)

pub returns-in-Stopped : goal.returns-in-Stopped
returns-in-Stopped g c = let round = c.in-Stopped.ensures in (round.0, (c.loop.invariant.0 ++ [], round.1.0, round.1.1, done_on c.loop.invariant.0 [] round.1.0 c.args.end c.loop.end c.round.new.self c.loop.invariant.1 round.1.2))
