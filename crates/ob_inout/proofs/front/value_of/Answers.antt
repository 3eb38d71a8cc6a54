use Rattle.std.proofs.Common.{◌+◌, arith}
use Rattle.ob_inout.proofs.DigitValues.{digits_value_next, digits_value-take-le}
use Rattle.ob_inout.proofs.front.value_of.Goals as goal

pub returns-then-value-gt2147483648 : goal.returns-then-value-gt2147483648
returns-then-value-gt2147483648 c =
    omega (arith, c.loop-c.invariant.counted, digits_value_next c.args.digits.now c.loop-c.c-index c.from.result c.loop-c-test.true (c.requires c.loop-c.c-index c.loop-c-test.true) c.from.ensures, digits_value-take-le (c.loop-c.c-index + 1) c.args.digits.now)

pub loop-c-preserved : goal.loop-c-preserved
loop-c-preserved c = record {
  counted = omega (arith, c.loop-c.invariant.counted, digits_value_next c.args.digits.now c.loop-c.c-index c.from.result c.loop-c-test.true (c.requires c.loop-c.c-index c.loop-c-test.true) c.from.ensures);
  small = omega arith;
}
