use Rattle.js_serve.proofs.desk.Desk.switch.Goals as goal

pub returns-in-Ok-take_place-clause-reply : goal.returns-in-Ok-take_place-clause-reply
returns-in-Ok-take_place-clause-reply g c =
    (c.requires.came, c.requires.switch, c.protocol_of.ensures, (c.args.self.now.manager.running, rw c.as_str.ensures at (rw c.in-Ok-take_place.is at c.take_place.ensures.place)))
