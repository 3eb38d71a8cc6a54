use Rattle.std.proofs.Common.{◌≡◌, Option}
use Rattle.jk_log.specs.declared.job.Job.{Job}
use Rattle.jk_queues.specs.Pool.{jobs_view, collected_by, IsSamePool}
use Rattle.jk_queues.specs.declared.line.Hand.{Hand}
use Rattle.jk_run.specs.Acts.{HandsResults}
use Rattle.jk_run.specs.Driver.{HasGiven}
use Rattle.jk_run.proofs.jobs.hand_results.Given as goal

abbrev pub invariant-loop : goal.invariant-loop
invariant-loop g l = record {
  log : l.kernel.log ≡ l.initial.kernel.log;
  given : (job : Option Job) (jobs : Hand Job) → HasGiven job jobs l.initial.kernel → HasGiven job jobs l.kernel;
  same : IsSamePool l.initial.pool l.pool;
  jobs : jobs_view l.pool ≡ jobs_view l.initial.pool;
  acts : HandsResults g.L.Language.spoken l.initial.kernel (collected_by l.initial.pool) l.kernel (collected_by l.pool);
}
