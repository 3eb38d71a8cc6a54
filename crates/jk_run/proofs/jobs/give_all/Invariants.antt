use Rattle.std.proofs.Common.{◌≡◌}
use Rattle.jk_queues.specs.Pool.{offered_by, collected_by, IsSamePool}
use Rattle.jk_run.specs.Acts.{GivesJobs}
use Rattle.jk_run.proofs.jobs.give_all.Given as goal

abbrev pub invariant-loop : goal.invariant-loop
invariant-loop g l = record {
  log : l.kernel.log ≡ l.initial.kernel.log;
  same : IsSamePool l.initial.pool l.pool;
  collected : collected_by l.pool ≡ collected_by l.initial.pool;
  acts : GivesJobs g.L.Language.spoken l.initial.kernel (offered_by l.initial.pool) l.kernel (offered_by l.pool);
}
