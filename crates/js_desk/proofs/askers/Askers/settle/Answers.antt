use Rattle.js_desk.proofs.Asking.{answered_keeps}
use Rattle.js_desk.proofs.askers.Askers.settle.Goals as goal

pub invariant_of-self-2 : goal.invariant_of-self-2
invariant_of-self-2 g c = answered_keeps _ c.self.inside.answered.items c.dismiss_one.new.answered.items _ c.in-Some.asker c.self.inside.turn c.take.new.self (cc) c.take.ensures.after c.dismiss_one.ensures c.self.invariant

pub returns-clause-once : goal.returns-clause-once
returns-clause-once g c = answered_keeps _ c.self.inside.answered.items c.dismiss_one.new.answered.items _ c.in-Some.asker c.self.inside.turn c.take.new.self (cc) c.take.ensures.after c.dismiss_one.ensures c.self.invariant
