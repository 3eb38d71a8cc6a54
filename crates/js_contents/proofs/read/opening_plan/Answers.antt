use Rattle.std.proofs.Common.{inl, inr, refl}
use Rattle.js_contents.proofs.read.opening_plan.Goals as goal

pub returns-in-Ok : goal.returns-in-Ok
returns-in-Ok c = inr (c.in-Ok.item, c.in-Ok.ensures, c.item_plan.ensures)

pub returns-in-Err : goal.returns-in-Err
returns-in-Err c = inl refl
