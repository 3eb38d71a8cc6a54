use Rattle.std.proofs.Common.{◌≡◌, None, ap, ◌∙◌}
use Rattle.js_desk.specs.Askers.{AskersState}
use Rattle.js_desk.proofs.Asking.{asked_keeps}
use Rattle.js_desk.proofs.askers.Askers.ask.Goals as goal

pub invariant_of-self : goal.invariant_of-self
invariant_of-self g c =
    let none : c.self.inside.turn ≡ None = ap (λ (s : AskersState _). s.turn) (c.self.view_is ∙ c.settle.ensures.settled) in
    asked_keeps c.self.inside.asked.items _ c.self.inside.answered.items _ c.args.asker c.self.inside.turn none c.and.ensures c.self.invariant
