use Rattle.std.proofs.Common.{◌≡◌, ◌++◌, drop}
use Rattle.ob_check_module.specs.Modules as spec
use Rattle.ob_check_module.proofs.module.exported_variables.Given as goal

abbrev pub invariant-loop-d : goal.invariant-loop-d
invariant-loop-d l = l.so_far ++ spec.exported_variables (drop l.d-index l.declared) ≡ spec.exported_variables l.declared
