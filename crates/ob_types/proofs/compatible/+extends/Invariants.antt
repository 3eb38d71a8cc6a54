use Rattle.ob_types.specs.Types.{levels}
use Rattle.ob_types.proofs.compatible.+extends.Given as goal

abbrev pub decreases-extends : goal.decreases-extends
decreases-extends l = levels l.from.now
