use Rattle.std.proofs.Common.{length}
use Rattle.ob_reference.proofs.reference.+opening_store.Given as goal

abbrev pub decreases-opening_store : goal.decreases-opening_store
decreases-opening_store l = length l.program.now
