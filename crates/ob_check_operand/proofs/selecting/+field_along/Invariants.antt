use Rattle.ob_types.specs.Types.{levels}
use Rattle.ob_check_operand.proofs.selecting.+field_along.Given as goal

abbrev pub decreases-field_along : goal.decreases-field_along
decreases-field_along l = levels l.of.now
