use Rattle.std.proofs.Common.{◌≡◌}
use Rattle.ob_link.specs.Faults.{fault_row}
use Rattle.ob_link.proofs.table.Table.faults_in_rows.Given as goal

abbrev pub invariant-loop-length : goal.invariant-loop-length
invariant-loop-length l = l.behind.items ≡ fault_row l.self l._length
