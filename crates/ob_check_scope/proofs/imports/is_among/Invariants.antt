use Rattle.std.proofs.Common.{◌≡◌, drop}
use Rattle.ob_check_scope.specs.Names.{is_among}
use Rattle.ob_check_scope.proofs.imports.is_among.Given as goal

abbrev pub invariant-loop-each : goal.invariant-loop-each
invariant-loop-each l = is_among l.names l.name ≡ is_among (drop l.each-index l.names) l.name
