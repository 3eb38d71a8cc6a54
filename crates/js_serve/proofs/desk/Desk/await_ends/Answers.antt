use Rattle.std.proofs.Common.{inl, refl}
use Rattle.js_serve.proofs.desk.Desk.await_ends.Goals as goal

pub send-requires : goal.send-requires
send-requires g c = rw (c.start_recorders.ensures, c.take_opened.ensures) c.requires

pub refuse-requires : goal.refuse-requires
refuse-requires g c = inl refl
