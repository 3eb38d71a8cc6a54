use Rattle.std.proofs.Common.{◌≡◌, ◌+◌, ◌*◌, drop}
use Rattle.ob_check_scope.specs.Rule.{answer, through}
use Rattle.ob_check_module.specs.Procedures as spec
use Rattle.ob_check_module.proofs.procedure.+procedures.Given as goal

abbrev pub decreases-inside_of : goal.decreases-inside_of
decreases-inside_of l = 4 * l.levels + 2

abbrev pub decreases-procedure_of : goal.decreases-procedure_of
decreases-procedure_of l = 4 * l.levels + 3

abbrev pub decreases-procedure : goal.decreases-procedure
decreases-procedure l = 4 * l.levels + 0

abbrev pub decreases-procedures : goal.decreases-procedures
decreases-procedures l = 4 * l.levels + 1

abbrev pub invariant-procedures-loop-p : goal.invariant-procedures-loop-p
invariant-procedures-loop-p l = answer (through (spec.procedure_at l.imports l.levels) l.fn.so_far l.list) ≡ answer (through (spec.procedure_at l.imports l.levels) l.so_far (drop l.p-index l.list))
