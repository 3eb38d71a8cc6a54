use Rattle.std.proofs.Common.{◌≡◌, ◌++◌, drop}
use Rattle.ob_check_scope.specs.Exports as spec
use Rattle.ob_check_scope.proofs.imports.variables_in.Given as goal

abbrev pub invariant-loop-e : goal.invariant-loop-e
invariant-loop-e l = l.so_far ++ spec.variables_in (drop l.e-index l.exports) ≡ spec.variables_in l.exports
