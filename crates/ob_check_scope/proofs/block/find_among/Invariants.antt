use Rattle.std.proofs.Common.{◌≡◌, drop}
use Rattle.ob_check_scope.specs.Block.{find}
use Rattle.ob_check_scope.proofs.block.find_among.Given as goal

abbrev pub invariant-loop-each : goal.invariant-loop-each
invariant-loop-each l = find l.declared l.name ≡ find (drop l.each-index l.declared) l.name
