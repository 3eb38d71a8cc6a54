use Rattle.std.proofs.Common.{◌≡◌, drop}
use Rattle.ob_check_scope.specs.Exports.{exported_in}
use Rattle.ob_check_scope.proofs.imports.exported_in.Given as goal

abbrev pub invariant-loop-e : goal.invariant-loop-e
invariant-loop-e l = exported_in l.exports l.name ≡ exported_in (drop l.e-index l.exports) l.name
