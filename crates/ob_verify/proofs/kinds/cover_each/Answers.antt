use Rattle.std.proofs.Common.{arith}
use Rattle.ob_code.specs.Kinds.{CoversAt}
use Rattle.ob_verify.proofs.Lows.{all_covered, one_more}
use Rattle.ob_verify.proofs.kinds.cover_each.Goals as goal

pub loop-place-preserved : goal.loop-place-preserved
loop-place-preserved c =
    one_more (CoversAt c.args.expected.now c.args.found.now) c.loop-place.place c.loop-place.invariant (c.covers_at.ensures c.if-not-covers_at.false)

pub returns : goal.returns
returns c = λ yes. all_covered c.args.expected.now c.args.found.now c.requires
    (λ i lt. c.loop-place.invariant i (omega (arith, lt, c.loop-place-test.false)))
