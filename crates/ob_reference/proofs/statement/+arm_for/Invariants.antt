use Rattle.std.proofs.Common.{length}
use Rattle.ob_reference.proofs.statement.+arm_for.Given as goal

abbrev pub decreases-arm_for : goal.decreases-arm_for
decreases-arm_for l = length l.arms.now
