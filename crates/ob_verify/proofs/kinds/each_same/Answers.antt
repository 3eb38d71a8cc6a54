use Rattle.std.proofs.Common.{arith}
use Rattle.ob_code.specs.Kinds.{SameAt}
use Rattle.ob_verify.proofs.Lows.{all_same, one_more}
use Rattle.ob_verify.proofs.kinds.each_same.Goals as goal

pub loop-place-preserved : goal.loop-place-preserved
loop-place-preserved c =
    one_more (SameAt c.args.one.now c.args.other.now) c.loop-place.place c.loop-place.invariant (c.name_is_at.ensures.same c.if-not-name_is_at.false)

pub returns-clause-same : goal.returns-clause-same
returns-clause-same c = λ yes. all_same c.args.one.now c.args.other.now c.requires
    (λ i lt. c.loop-place.invariant i (omega (arith, lt, c.loop-place-test.false)))
