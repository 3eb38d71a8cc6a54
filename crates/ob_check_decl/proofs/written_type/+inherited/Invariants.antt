use Rattle.ob_types.specs.Types.{levels}
use Rattle.ob_check_decl.proofs.written_type.+inherited.Given as goal

abbrev pub decreases-inherited : goal.decreases-inherited
decreases-inherited l = levels l.of.now
