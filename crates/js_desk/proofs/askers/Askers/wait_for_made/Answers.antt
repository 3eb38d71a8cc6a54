use Rattle.std.proofs.Common.{sym, ◌∙◌}
use Rattle.js_desk.proofs.Asking.{is_none, made_keeps}
use Rattle.js_desk.proofs.askers.Askers.wait_for_made.Goals as goal

pub invariant_of-self-2 : goal.invariant_of-self-2
invariant_of-self-2 g c =
    made_keeps _ _ _ c.in-Some.asker c.self.inside.turn c.take.new.self c.self.inside.made (sym c.take.ensures.value ∙ c.in-Some.is) c.take.ensures.after
    (is_none c.self.inside.made (sym c.is_some.ensures ∙ c.if-is_some.false)) c.self.invariant
