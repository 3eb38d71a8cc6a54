use Rattle.std.proofs.Common.{◌≡◌, ◌++◌, drop}
use Rattle.ob_check_scope.specs.Exports as spec
use Rattle.ob_check_scope.proofs.imports.procedures_in.Given as goal

abbrev pub invariant-loop-e : goal.invariant-loop-e
invariant-loop-e l = l.so_far ++ spec.procedures_in (drop l.e-index l.exports) ≡ spec.procedures_in l.exports
