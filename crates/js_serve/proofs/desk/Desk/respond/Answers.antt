use Rattle.js_serve.proofs.desk.Desk.respond.Goals as goal

pub wait_for_made-requires : goal.wait_for_made-requires
wait_for_made-requires g c = c.requires

pub send-requires : goal.send-requires
send-requires g c = c.requires
