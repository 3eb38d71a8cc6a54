use Rattle.std.proofs.Common.{◌≤◌}
use Rattle.ob_types.proofs.firsts.back_for.Given as goal

abbrev pub invariant-loop-back : goal.invariant-loop-back
invariant-loop-back l = 1 ≤ l.back
