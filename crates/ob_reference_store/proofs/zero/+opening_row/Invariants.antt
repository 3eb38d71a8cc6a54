use Rattle.std.proofs.Common.{length}
use Rattle.ob_reference_store.proofs.zero.+opening_row.Given as goal

abbrev pub decreases-opening_row : goal.decreases-opening_row
decreases-opening_row l = length l.variables.now
