use Rattle.std.proofs.Common.{◌≡◌, ◌++◌, drop}
use Rattle.ob_types.specs.Spelling as spec
use Rattle.ob_types.proofs.spelling.put_enclosing.Given as goal

abbrev pub invariant-loop-procedure : goal.invariant-loop-procedure
invariant-loop-procedure l = l.output.items ++ spec.enclosing_spelled (drop l.procedure-index l.procedures) ≡ l.initial.output.items ++ spec.enclosing_spelled l.procedures
