use Rattle.std.proofs.Common.{◌≡◌, ◌+◌, length}
use Rattle.jk_queues.specs.Ends.{seat_inbox, sent_by}
use Rattle.thread_tests.proofs.inbox_tests.send.Given as goal

abbrev pub invariant-loop : goal.invariant-loop
invariant-loop g l = record {
  inbox : seat_inbox l.seat ≡ seat_inbox l.initial.seat;
  place : l.seat.place ≡ l.initial.seat.place;
  own : l.arrival.seat ≡ l.seat.place;
  number : l.arrival.number ≡ length (sent_by l.seat) + 1;
}
