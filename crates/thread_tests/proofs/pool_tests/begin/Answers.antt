use denote.Param.Send.{sendable}
use Rattle.std.proofs.Crossing.{crosses}
use Rattle.thread_tests.proofs.Crossing.{texts_worker_send}
use Rattle.thread_tests.proofs.pool_tests.HoldsFirst.TheSendSync as holds
use Rattle.thread_tests.proofs.pool_tests.begin.Goals as goal

pub spawn-requires-send-F : goal.spawn-requires-send-F
spawn-requires-send-F g c = search (texts_worker_send, holds.the_send, holds.the_sync, crosses, sendable) depth 60 fits 20000
