use denote.Param.Send.{sendable}
use Rattle.std.proofs.Crossing.{crosses}
use Rattle.thread_tests.proofs.Crossing.{texts_follower_send}
use Rattle.thread_tests.proofs.following.begin.Goals as goal

pub spawn-requires-send-F : goal.spawn-requires-send-F
spawn-requires-send-F g c = search (texts_follower_send, crosses, sendable) depth 60 fits 20000
