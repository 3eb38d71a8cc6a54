use Rattle.js_desk.proofs.Asking.{answered_keeps}
use Rattle.js_desk.proofs.askers.Askers.answer.Goals as goal

pub invariant_of-self-2 : goal.invariant_of-self-2
invariant_of-self-2 g c = answered_keeps _ c.self.inside.answered.items c.reply_one.new.answered.items _ c.in-Some.asker c.self.inside.turn c.take.new.self (cc) c.take.ensures.after c.reply_one.ensures c.self.invariant
