use Rattle.std.proofs.Common.{inl, refl}
use Rattle.js_serve.proofs.desk.Desk.hold.Goals as goal

pub hold-requires : goal.hold-requires
hold-requires g c = c.requires

pub refuse-requires : goal.refuse-requires
refuse-requires g c = inl refl
