-- The ends that threads hold may go to another thread.
use denote.Param.Send.{IsSend, sendable}
use Rattle.std.proofs.Crossing.{crosses}
use Rattle.atomic_table.proofs.shared.Seat.TheSendSync as pass
use Rattle.crossbeam_queue.proofs.array_queue.Slotted.TheSendSync as queue
use Rattle.jk_log.proofs.Crossing.{arrival_send}
use Rattle.jk_queues.specs.contracts.inbox.Seat as Seat
use Rattle.jk_queues.specs.contracts.inbox.Taker as Taker

pub seat_send : IsSend Seat.the_row
seat_send = search (arrival_send, queue.the_send, queue.the_sync, pass.the_send, crosses, sendable) depth 60 fits 20000

pub taker_send : IsSend Taker.the_row
taker_send = search (arrival_send, queue.the_send, queue.the_sync, pass.the_send, crosses, sendable) depth 60 fits 20000
