use Rattle.std.proofs.Common.{◌≡◌, drop}
use Rattle.ob_link.specs.Faults.{all_none}
use Rattle.ob_link.proofs.linking.no_fault.Given as goal

abbrev pub invariant-loop-fault : goal.invariant-loop-fault
invariant-loop-fault l = all_none l.row ≡ all_none (drop l.fault-index l.row)
