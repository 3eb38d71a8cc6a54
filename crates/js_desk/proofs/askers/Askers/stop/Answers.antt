use Rattle.std.proofs.Common.{ap, ◌∙◌}
use Rattle.js_desk.specs.Askers.{after, one}
use Rattle.js_desk.specs.Endings.{waiting}
use Rattle.js_desk.proofs.Asking.{stopped_keeps}
use Rattle.js_desk.proofs.askers.Askers.stop.Goals as goal

pub invariant_of-self : goal.invariant_of-self
invariant_of-self g c =
    stopped_keeps c.self.inside.asked.items c.self.inside.answered.items c.tell_stopped.new.answered.items (one c.self.inside.turn) (one c.self.inside.made)
    c.self.inside.held c.take_all-held.new.self (waiting c.self.inside.endings)
    (c.tell_stopped.ensures ∙ ap (λ ks. after ks c.self.inside.answered.items) c.take_all-held.ensures.0) c.take_all-held.ensures.1 c.self.invariant
