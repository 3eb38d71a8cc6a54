use Rattle.std.proofs.Common.{◌≡◌, ◌≤◌, drop}
use Rattle.ob_check_scope.specs.Exports.{module_names}
use Rattle.ob_check_scope.specs.Names.{place_in}
use Rattle.ob_check_scope.proofs.Places.{later}
use Rattle.ob_check_scope.proofs.imports.place_among.Given as goal

abbrev pub invariant-loop-module : goal.invariant-loop-module
invariant-loop-module l = (later l.before (place_in (module_names (drop l.module-index l.modules)) l.name) ≡ place_in (module_names l.modules) l.name) × (l.before ≤ l.module-index)
