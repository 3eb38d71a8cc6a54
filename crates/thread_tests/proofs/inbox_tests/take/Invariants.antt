use Rattle.std.proofs.Common.{◌≡◌}
use Rattle.jk_queues.specs.Ends.{taker_inbox}
use Rattle.thread_tests.proofs.inbox_tests.take.Given as goal

abbrev pub invariant-loop : goal.invariant-loop
invariant-loop g l = taker_inbox l.taker ≡ taker_inbox l.initial.taker
