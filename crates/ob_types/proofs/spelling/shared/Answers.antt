use Rattle.std.proofs.Common.{arith, inr, rules}
use Rattle.ob_types.proofs.SharedFronts.{shared_is, whole}
use Rattle.ob_types.proofs.spelling.shared.Goals as goal

pub returns-then-previous-count-clause-shared : goal.returns-then-previous-count-clause-shared
returns-then-previous-count-clause-shared c =
    let xs = c.args.previous.now in
    let ys = c.args.name.now in
    shared_is 100 c.loop-count.count xs ys (omega arith) (omega arith) (omega arith) c.loop-count.invariant (inr (inr (inr (search rules))))

pub returns-clause-shared : goal.returns-clause-shared
returns-clause-shared c = whole 100 c.min-most.result c.args.previous.now c.args.name.now (search rules) (search rules)
