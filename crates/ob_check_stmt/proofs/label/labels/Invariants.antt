use Rattle.std.proofs.Common.{◌≡◌, [], drop}
use Rattle.ob_check_scope.specs.Rule.{answer, through}
use Rattle.ob_check_stmt.specs.Labels as spec
use Rattle.ob_check_stmt.proofs.label.labels.Given as goal

abbrev pub invariant-loop-r : goal.invariant-loop-r
invariant-loop-r l = answer (through (spec.next_range l.imports l.scope l.character) (l.fn.all, []) l.list) ≡ answer (through (spec.next_range l.imports l.scope l.character) l.so_far (drop l.r-index l.list))
