use Rattle.std.proofs.Common.{◌+◌, ◌*◌}
use Rattle.ob_types.specs.Types.{levels}
use Rattle.ob_check_kinds.proofs.kinds.Kinds.+kinds.Given as goal

abbrev pub decreases-names_of : goal.decreases-names_of
decreases-names_of l = 2 * levels l.of.now

abbrev pub decreases-kind_of : goal.decreases-kind_of
decreases-kind_of l = 2 * levels l.of.now + 1
