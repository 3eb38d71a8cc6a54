use Rattle.std.proofs.Common.{◌≡◌}
use Rattle.ob_link.specs.Reaching.{reach_row}
use Rattle.ob_link.proofs.modules.Modules.reaching_in_rows.Given as goal

abbrev pub invariant-loop-length : goal.invariant-loop-length
invariant-loop-length l = l.row.items ≡ reach_row l.self l._length l.name
