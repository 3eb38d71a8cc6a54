use Rattle.std.proofs.Common.{List, []}
use Rattle.jk_log.specs.declared.job.Job.{Job}
use Rattle.jk_queues.specs.Work.{HasDone}
use Rattle.jk_queues.proofs.pool.work.worker.Given as goal

abbrev pub invariant-loop : goal.invariant-loop
invariant-loop g l = (first : List Job) × HasDone first [] l.initial.end l.end
