use Rattle.std.proofs.Common.{sym, ◌∙◌}
use Rattle.js_desk.specs.Askers.{one}
use Rattle.js_desk.specs.Endings.{waiting}
use Rattle.js_desk.proofs.Asking.{held_keeps}
use Rattle.js_desk.proofs.askers.Askers.hold.Goals as goal

pub invariant_of-self-in-None : goal.invariant_of-self-in-None
invariant_of-self-in-None g c =
    held_keeps c.self.inside.asked.items c.self.inside.answered.items (one c.self.inside.made) c.self.inside.held c.hold.new.self
    (waiting c.self.inside.endings) c.in-Some.asker c.self.inside.turn c.take.new.self (sym c.take.ensures.value ∙ c.in-Some.is) c.take.ensures.after
    (c.hold.ensures.held c.in-None.is) c.self.invariant
