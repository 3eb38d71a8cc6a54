use Rattle.std.proofs.Common.{inl, inr, refl}
use Rattle.js_serve.proofs.desk.Desk.channel_for.Goals as goal

pub switch-requires : goal.switch-requires
switch-requires g c = record {
  came = c.requires;
  switch = rw c.in-Ok.is at c.handshake.ensures.accepted;
}
