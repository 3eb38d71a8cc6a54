use Rattle.std.proofs.Common.{◌≡◌}
use Rattle.jk_queues.specs.Ends.{seat_inbox}
use Rattle.thread_tests.proofs.inbox_tests.two_hundred_and_fifty_seven.Given as goal

abbrev pub invariant-loop-number : goal.invariant-loop-number
invariant-loop-number g l = (seat_inbox l.seat ≡ seat_inbox l.initial.seat) × (l.seat.place ≡ l.initial.seat.place)
