use Rattle.std.proofs.Common.{◌≡◌, ◌++◌, drop}
use Rattle.ob_check_decl.specs.Interfaces as spec
use Rattle.ob_check_decl.proofs.interface.exported_procedures.Given as goal

abbrev pub invariant-loop-d : goal.invariant-loop-d
invariant-loop-d l = l.so_far ++ spec.exported_procedures (drop l.d-index l.declared) ≡ spec.exported_procedures l.declared
