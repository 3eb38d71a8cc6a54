use Rattle.std.proofs.Common.{◌≡◌, ◌∙◌, sym, length, arith}
use Rattle.ob_mean.proofs.TextOrder.{first_ended, second_ended}
use Rattle.ob_mean.proofs.arithmetic.is_before.Goals as goal

pub returns-then-i-first : goal.returns-then-i-first
returns-then-i-first c =
    first_ended c.args.first.now c.args.second.now c.loop-i.i c.if-i-first.true ∙ sym c.loop-i.invariant.2

pub returns-else-i-second-2 : goal.returns-else-i-second-2
returns-else-i-second-2 c =
    let e : c.loop-i.i ≡ length c.args.second.now = omega (arith, c.loop-i.invariant.1) in
    second_ended c.args.first.now c.args.second.now c.loop-i.i e c.if-i-second-2.false ∙ sym c.loop-i.invariant.2
