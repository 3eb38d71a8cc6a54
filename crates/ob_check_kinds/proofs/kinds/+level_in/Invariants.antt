use Rattle.ob_types.specs.Types.{levels}
use Rattle.ob_check_kinds.proofs.kinds.+level_in.Given as goal

abbrev pub decreases-level_in : goal.decreases-level_in
decreases-level_in l = levels l.from.now
