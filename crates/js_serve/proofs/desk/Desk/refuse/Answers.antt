use Rattle.js_call.proofs.Answering.{refuses}
use Rattle.js_serve.proofs.desk.Desk.refuse.Goals as goal

pub send-requires : goal.send-requires
send-requires g c = rw c.refused.ensures (refuses c.args.status c.args.self.now.clients.turn c.requires)
