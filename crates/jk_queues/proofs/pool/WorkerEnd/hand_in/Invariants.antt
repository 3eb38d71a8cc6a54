use Rattle.std.proofs.Common.{◌≡◌}
use Rattle.jk_queues.specs.Pool.{taken_by, made_by, IsSameEnd}
use Rattle.jk_queues.proofs.pool.WorkerEnd.hand_in.Given as goal

abbrev pub invariant-loop : goal.invariant-loop
invariant-loop g l = record {
  result : l.made ≡ l.initial.made;
  taken : taken_by l.self ≡ taken_by l.initial.self;
  made : made_by l.self ≡ made_by l.initial.self;
  same : IsSameEnd l.initial.self l.self;
}
