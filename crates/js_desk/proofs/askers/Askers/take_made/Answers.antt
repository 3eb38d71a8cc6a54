use Rattle.std.proofs.Common.{Some, ap, sym, ◌∙◌}
use Rattle.js_desk.proofs.Asking.{comes_keeps, is_none}
use Rattle.js_desk.proofs.askers.Askers.take_made.Goals as goal

pub invariant_of-self-2 : goal.invariant_of-self-2
invariant_of-self-2 g c =
    comes_keeps _ _ _ c.made.inside.asker c.self.inside.turn c.self.inside.made c.take.new.self
    (is_none c.self.inside.turn (sym c.is_some.ensures ∙ c.if-is_some.false))
    (sym c.take.ensures.value ∙ (c.in_ok-made.was ∙ ap Some (sym c.made.view_is))) c.take.ensures.after c.self.invariant
