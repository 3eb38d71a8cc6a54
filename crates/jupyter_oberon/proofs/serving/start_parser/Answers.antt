use denote.Param.Send.{sendable}
use Rattle.std.proofs.Crossing.{crosses}
use Rattle.jupyter_oberon.proofs.Crossing.{oberon_parser_send}
use Rattle.jupyter_oberon.proofs.serving.start_parser.Goals as goal

pub spawn-requires-send-F : goal.spawn-requires-send-F
spawn-requires-send-F g c = search (oberon_parser_send, crosses, sendable) depth 60 fits 20000
