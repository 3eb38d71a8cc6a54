use Rattle.std.proofs.Common.{◌≤◌, length, ◌+◌, ◌*◌}
use Rattle.ob_parse.specs.DeclarationReading as spec
use Rattle.ob_parse.specs.DeclarationReading.{inner_procedure}
use Rattle.ob_parse_expression.proofs.Loop.{Looped}
use Rattle.ob_parse.proofs.procedure.+declaration.Given as goal

abbrev pub decreases-procedure_part : goal.decreases-procedure_part
decreases-procedure_part l = 5 * l.levels + 0

abbrev pub decreases-next_procedure : goal.decreases-next_procedure
decreases-next_procedure l = 5 * l.levels + 1

abbrev pub decreases-procedures : goal.decreases-procedures
decreases-procedures l = 5 * l.levels + 2

abbrev pub decreases-declarations : goal.decreases-declarations
decreases-declarations l = 5 * l.levels + 3

abbrev pub decreases-procedure : goal.decreases-procedure
decreases-procedure l = 5 * l.levels + 4

abbrev pub invariant-procedures-loop-items : goal.invariant-procedures-loop-items
invariant-procedures-loop-items l = record {
  read : Looped (spec.next_procedure l.levels (inner_procedure l.levels)) l.items l.parser.rest.now l.initial.items l.initial.parser.rest.now;
  shorter : length l.parser.rest.now ≤ length l.initial.parser.rest.now;
}

abbrev pub decreases-procedures-loop-items : goal.decreases-procedures-loop-items
decreases-procedures-loop-items l = length l.parser.rest.now
