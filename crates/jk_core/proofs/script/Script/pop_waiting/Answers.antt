use Rattle.std.proofs.Common.{ℕ, drop, sym, subst}
use Rattle.jk_core.specs.State.{Ascends, PassedBy}
use Rattle.jk_core.proofs.Needed.{there_popped}
use Rattle.jk_core.proofs.Orders.{passed_drop, popped}
use Rattle.jk_core.proofs.script.Script.pop_waiting.Goals as goal

pub invariant_of-self-2 : goal.invariant_of-self-2
invariant_of-self-2 g c = record {
  places = c.self.invariant.places;
  small = c.self.invariant.small;
  room = c.self.invariant.room;
  there = there_popped c.self.inside.past.items c.self.inside.waiting.items _ c.self.inside.requests.items _ c.pop_front.ensures.rest c.pop_front-2.ensures.rest c.self.invariant.there;
  cell = c.self.invariant.cell;
  taken = c.self.invariant.taken;
  order = subst (Ascends 0 c.self.inside.taken) (sym c.pop_front.ensures.rest) (popped 0 c.self.inside.taken c.self.inside.waiting.items c.self.invariant.order);
  passed = subst (PassedBy c.self.inside.given c.saturating_sub-self-inside.result) (sym c.pop_front.ensures.rest) (subst (λ (n : ℕ). PassedBy c.self.inside.given n (drop 1 c.self.inside.waiting.items)) (sym c.saturating_sub-self-inside.ensures) (passed_drop c.self.inside.given c.self.inside.passed c.self.inside.waiting.items c.self.invariant.passed));
  ended = c.self.invariant.ended;
  left = c.self.invariant.left;
}
