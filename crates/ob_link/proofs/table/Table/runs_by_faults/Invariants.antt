use Rattle.std.proofs.Common.{◌≡◌, ℕ, List, Option, is_none, map, take}
use Rattle.ob_link.proofs.table.Table.runs_by_faults.Given as goal

abbrev pub invariant-loop-fault : goal.invariant-loop-fault
invariant-loop-fault l = l.so_far.items ≡ map (λ (f : Option (List ℕ)). is_none f) (take l.fault-index l.fault-items)
