use Rattle.std.proofs.Common.{◌≤◌}
use Rattle.ob_check_stmt.proofs.statement.count_of.Given as goal

abbrev pub invariant-loop-x : goal.invariant-loop-x
invariant-loop-x l = l.count ≤ l.x-index
