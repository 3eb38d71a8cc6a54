use Rattle.std.proofs.Common.{◌≡◌, ◌≤◌, drop}
use Rattle.ob_check_scope.specs.Exports as spec
use Rattle.ob_check_scope.specs.Names.{place_in}
use Rattle.ob_check_scope.proofs.Places.{later}
use Rattle.ob_check_scope.proofs.imports.variable_place.Given as goal

abbrev pub invariant-loop-e : goal.invariant-loop-e
invariant-loop-e l = (later l.before (place_in (spec.variables_in (drop l.e-index l.exports)) l.name) ≡ place_in (spec.variables_in l.exports) l.name) × (l.before ≤ l.e-index)
