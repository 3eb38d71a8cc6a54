use denote.Param.Send.{sendable}
use Rattle.std.proofs.Crossing.{crosses}
use Rattle.serve_tests.proofs.Crossing.{texts_parser_send}
use Rattle.serve_tests.proofs.crew.start_parser.Goals as goal

pub spawn-requires-send-F : goal.spawn-requires-send-F
spawn-requires-send-F g c = search (texts_parser_send, crosses, sendable) depth 60 fits 20000
