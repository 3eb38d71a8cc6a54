use Rattle.std.proofs.Common.{arith}
use Rattle.js_home.proofs.Steps.{taken_after, low_in}
use Rattle.js_home.proofs.home.Home.take_back.Goals as goal

pub take_at-requires : goal.take_at-requires
take_at-requires g c = low_in c.args.self.now c.loop-place.self c.loop-place.place c.loop-place.invariant.same (omega (arith, c.loop-place.invariant.end))

pub returns-then-take_at : goal.returns-then-take_at
returns-then-take_at g c = (c.loop-place.place, taken_after _ _ _ c.loop-place.place c.loop-place.invariant.same c.if-take_at.ensures)
