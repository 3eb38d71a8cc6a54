use Rattle.std.proofs.Common.{length}
use Rattle.ob_reference_store.proofs.value.+at.Given as goal

abbrev pub decreases-at : goal.decreases-at
decreases-at l = length l.path.now
