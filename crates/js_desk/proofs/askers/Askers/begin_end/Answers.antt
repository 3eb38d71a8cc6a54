use Rattle.js_desk.specs.Askers.{one}
use Rattle.js_desk.specs.Endings.{has, waiting}
use Rattle.js_desk.proofs.Waiting.{begun}
use Rattle.js_desk.proofs.Asking.{begun_keeps}
use Rattle.js_desk.proofs.askers.Askers.begin_end.Goals as goal

pub invariant_of-self : goal.invariant_of-self
invariant_of-self g c =
    begun_keeps c.self.inside.asked.items c.self.inside.answered.items (one c.self.inside.turn) (one c.self.inside.made) c.self.inside.held
    (waiting c.self.inside.endings) (waiting c.begin.new.self)
    (begun c.begin.result (has c.args.kernel.now c.self.inside.endings) c.args.kernel.now c.self.inside.endings c.begin.new.self c.begin.ensures.there c.begin.ensures.new c.begin.ensures.err)
    c.self.invariant
