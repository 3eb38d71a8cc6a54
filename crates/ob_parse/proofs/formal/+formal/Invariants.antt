use Rattle.std.proofs.Common.{◌+◌, ◌*◌}
use Rattle.ob_parse.proofs.formal.+formal.Given as goal

abbrev pub decreases-formal_type : goal.decreases-formal_type
decreases-formal_type l = 2 * l.levels + 0

abbrev pub decreases-boxed_formal : goal.decreases-boxed_formal
decreases-boxed_formal l = 2 * l.levels + 1
