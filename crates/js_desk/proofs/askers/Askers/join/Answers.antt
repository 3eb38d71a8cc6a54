use Rattle.std.proofs.Common.{sym, ◌∙◌}
use Rattle.js_desk.specs.Askers.{one}
use Rattle.js_desk.specs.Endings.{waiting}
use Rattle.js_desk.proofs.Waiting.{joins_waiting}
use Rattle.js_desk.proofs.Asking.{joined_keeps}
use Rattle.js_desk.proofs.askers.Askers.join.Goals as goal

pub invariant_of-self-in-None : goal.invariant_of-self-in-None
invariant_of-self-in-None g c =
    joined_keeps c.self.inside.asked.items c.self.inside.answered.items (one c.self.inside.made) c.self.inside.held
    (waiting c.self.inside.endings) (waiting c.join.new.self) c.in-Some.asker c.self.inside.turn c.take.new.self (sym c.take.ensures.value ∙ c.in-Some.is) c.take.ensures.after
    (joins_waiting c.args.kernel.now c.in-Some.asker c.self.inside.endings c.join.new.self (rw c.new.ensures at c.join.ensures.joins c.in-None.is)) c.self.invariant

pub returns-in-None : goal.returns-in-None
returns-in-None g c =
    rw (← c.self.view_is) (c.in-Some.asker, sym c.take.ensures.value ∙ c.in-Some.is, rw c.new.ensures at c.join.ensures.joins c.in-None.is, rw c.take.ensures.after)
