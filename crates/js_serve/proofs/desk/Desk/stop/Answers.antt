use Rattle.std.proofs.Common.{inl, refl}
use Rattle.js_serve.proofs.desk.Desk.stop.Goals as goal

pub refuse-requires : goal.refuse-requires
refuse-requires g c = inl refl

pub send-requires : goal.send-requires
send-requires g c = rw (rw c.in-Ok.is at c.nothing.ensures) c.requires
