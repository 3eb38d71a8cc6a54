use denote.Param.Send.{sendable}
use Rattle.std.proofs.Crossing.{crosses}
use Rattle.channel_tests.proofs.Crossing.{texts_worker_send}
use Rattle.channel_tests.proofs.losses.begin.Goals as goal

pub spawn-requires-send-F : goal.spawn-requires-send-F
spawn-requires-send-F g c = search (texts_worker_send, crosses, sendable) depth 60 fits 20000
