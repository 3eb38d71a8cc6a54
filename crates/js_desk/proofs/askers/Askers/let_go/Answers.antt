use Rattle.js_desk.specs.Askers.{one}
use Rattle.js_desk.specs.Endings.{waiting}
use Rattle.js_desk.proofs.Waiting.{let_go_waiting}
use Rattle.js_desk.proofs.Asking.{ended_keeps}
use Rattle.js_desk.proofs.askers.Askers.let_go.Goals as goal

pub invariant_of-self-2 : goal.invariant_of-self-2
invariant_of-self-2 g c =
    ended_keeps c.self.inside.asked.items c.self.inside.answered.items c.tell_ended.new.answered.items (one c.self.inside.turn) (one c.self.inside.made)
    c.self.inside.held (waiting c.self.inside.endings) (waiting c.let_go.new.self) c.in-Some.waiters.items c.tell_ended.ensures
    (let_go_waiting c.args.place c.in-Some.waiters.items c.self.inside.endings c.let_go.new.self c.in-Some.ensures.some) c.self.invariant
