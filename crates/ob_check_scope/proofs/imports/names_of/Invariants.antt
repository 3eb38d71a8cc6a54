use Rattle.std.proofs.Common.{◌≡◌, ◌++◌, drop}
use Rattle.ob_check_scope.specs.Exports as spec
use Rattle.ob_check_scope.proofs.imports.names_of.Given as goal

abbrev pub invariant-loop-e : goal.invariant-loop-e
invariant-loop-e l = l.so_far ++ spec.names_of (drop l.e-index l.exports) ≡ spec.names_of l.exports
