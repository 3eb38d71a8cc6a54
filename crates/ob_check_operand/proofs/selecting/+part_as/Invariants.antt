use Rattle.ob_types.specs.Types.{levels}
use Rattle.ob_check_operand.proofs.selecting.+part_as.Given as goal

abbrev pub decreases-part_as : goal.decreases-part_as
decreases-part_as l = levels l.of.now
