use Rattle.std.proofs.Common.{◌≡◌, take}
use Rattle.ob_link.specs.Faults.{fault_in}
use Rattle.std.specs.Prelude.{map}
use Rattle.ob_session.specs.Session.{Module, first_fault}
use Rattle.ob_link.proofs.table.Table.next_faults.Given as goal

abbrev pub invariant-loop-each : goal.invariant-loop-each
invariant-loop-each l = l.so_far.items ≡ map (λ (m : Module). first_fault (fault_in l.self l.behind) m.imports) (take l.each-index l.each-items)
