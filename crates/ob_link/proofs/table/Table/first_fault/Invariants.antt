use Rattle.std.proofs.Common.{◌≡◌, drop}
use Rattle.ob_session.specs.Session as session
use Rattle.ob_link.specs.Faults.{fault_in}
use Rattle.ob_link.proofs.table.Table.first_fault.Given as goal

abbrev pub invariant-loop-import : goal.invariant-loop-import
invariant-loop-import l = session.first_fault (fault_in l.self l.behind) l.imports ≡ session.first_fault (fault_in l.self l.behind) (drop l.import-index l.imports)
