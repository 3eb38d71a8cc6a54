use Rattle.std.proofs.Common.{◌≡◌}
use Rattle.jk_log.specs.Log.{takes}
use Rattle.jk_queues.specs.Ends.{taken_by, taker_inbox}
use Rattle.jk_run.specs.Acts.{MovesKernel}
use Rattle.jk_run.proofs.arrivals.take_all.Given as goal

abbrev pub invariant-loop : goal.invariant-loop
invariant-loop g l = record {
  took : takes l.kernel.log ≡ taken_by l.taker;
  inbox : taker_inbox l.taker ≡ taker_inbox l.initial.taker;
  acts : MovesKernel g.L.Language.spoken l.initial.kernel l.kernel;
}
