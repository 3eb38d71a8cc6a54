use denote.Param.Send.{sendable}
use Rattle.std.proofs.Crossing.{crosses}
use Rattle.jk_queues.proofs.Crossing.{seat_send}
use Rattle.thread_tests.proofs.inbox_tests.begin.Goals as goal

pub spawn_with-requires-send-F : goal.spawn_with-requires-send-F
spawn_with-requires-send-F g c = search (seat_send, crosses, sendable) depth 60 fits 20000

pub spawn_with-requires-send-T : goal.spawn_with-requires-send-T
spawn_with-requires-send-T g c κs within = search (seat_send, sendable) depth 60 fits 20000
