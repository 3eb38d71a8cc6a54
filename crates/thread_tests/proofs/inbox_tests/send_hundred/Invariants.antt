use Rattle.std.proofs.Common.{◌≡◌}
use Rattle.jk_queues.specs.Ends.{seat_inbox}
use Rattle.thread_tests.proofs.inbox_tests.send_hundred.Given as goal

abbrev pub invariant-loop : goal.invariant-loop
invariant-loop g l = (seat_inbox l.seat ≡ seat_inbox l.initial.seat) × (l.seat.place ≡ l.initial.seat.place)
