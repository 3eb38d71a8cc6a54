use Rattle.std.proofs.Common.{[], ◌∙◌, lit≤}
use Rattle.jk_queues.proofs.Works.{none_done}
use Rattle.jk_queues.proofs.pool.work.«WorkerEnd+ParsedCell+L».round.Goals as goal

pub returns-then-is_stopped : goal.returns-then-is_stopped
returns-then-is_stopped g c = (c.is_stopped.ensures.found ∙ c.if-is_stopped.true, ([], lit≤ tt, none_done c.args.self.now c.is_stopped.new.self c.is_stopped.ensures.views.0 c.is_stopped.ensures.views.1 c.is_stopped.ensures.same))
