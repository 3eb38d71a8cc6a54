use Rattle.std.proofs.Common.{◌∷◌, ap, sym, ◌∙◌}
use Rattle.js_desk.specs.Askers.{one}
use Rattle.js_desk.specs.Endings.{waiting}
use Rattle.js_desk.proofs.Asking.{is_none, next_keeps}
use Rattle.js_desk.proofs.askers.Askers.next_held.Goals as goal

pub invariant_of-self-2 : goal.invariant_of-self-2
invariant_of-self-2 g c =
    next_keeps c.self.inside.asked.items c.self.inside.answered.items (one c.self.inside.made) c.self.inside.held c.next.new.self
    (waiting c.self.inside.endings) c.request.inside.asker c.self.inside.turn (is_none c.self.inside.turn (sym c.is_some.ensures ∙ c.if-is_some.false))
    (c.in_ok-request.ensures.some ∙ ap (λ w. w ∷ c.next.new.self) (sym c.request.view_is)) c.self.invariant
