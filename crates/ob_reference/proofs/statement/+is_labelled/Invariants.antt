use Rattle.std.proofs.Common.{length}
use Rattle.ob_reference.proofs.statement.+is_labelled.Given as goal

abbrev pub decreases-is_labelled : goal.decreases-is_labelled
decreases-is_labelled l = length l.labels.now
