use Rattle.std.proofs.Common.{◌+◌, ◌*◌}
use Rattle.ob_check_decl.proofs.heading.+formal.Given as goal

abbrev pub decreases-formal_type : goal.decreases-formal_type
decreases-formal_type l = 2 * l.site.levels + 1

abbrev pub decreases-inner_formal : goal.decreases-inner_formal
decreases-inner_formal l = 2 * l.site.levels + 0
