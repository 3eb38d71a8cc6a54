use Rattle.std.proofs.Common.{ap, inl, refl}
use Rattle.js_serve.proofs.desk.Desk.end_later.Goals as goal

pub join-requires : goal.join-requires
join-requires g c = rw (ap (λ s. s.turn) c.begin_end.ensures.alone) c.requires

pub refuse-requires : goal.refuse-requires
refuse-requires g c = inl refl
