use Rattle.std.proofs.Common.{◌≡◌, length, arith}
use Rattle.ob_link.proofs.Rows.{same_rows}
use Rattle.ob_link.proofs.linking.same_faults.Goals as goal

pub returns : goal.returns
returns c = λ _.
    let even : length c.args.row.now ≡ length c.args.other.now = omega (arith, c.if-row-other.false) in
    same_rows c.args.row.now c.args.other.now even (λ k lt. c.loop-number.invariant k (omega (arith, lt, c.loop-number-test.false)))
