use Rattle.std.proofs.Common.{◌≤◌, length, ◌+◌, ◌*◌}
use Rattle.ob_scan.specs.declared.token.Symbol.TheVariants as s
use Rattle.ob_parse.specs.StructureReading as spec
use Rattle.ob_parse_expression.specs.Reading.{next_item}
use Rattle.ob_parse_expression.proofs.Loop.{Looped}
use Rattle.ob_parse.proofs.structure.+structure.Given as goal

abbrev pub decreases-array_type : goal.decreases-array_type
decreases-array_type l = 8 * l.levels + 0

abbrev pub decreases-record_type : goal.decreases-record_type
decreases-record_type l = 8 * l.levels + 0

abbrev pub decreases-type_expr : goal.decreases-type_expr
decreases-type_expr l = 8 * l.levels + 1

abbrev pub decreases-boxed_type : goal.decreases-boxed_type
decreases-boxed_type l = 8 * l.levels + 2

abbrev pub decreases-typed_names : goal.decreases-typed_names
decreases-typed_names l = 8 * l.levels + 3

abbrev pub decreases-next_fields : goal.decreases-next_fields
decreases-next_fields l = 8 * l.levels + 4

abbrev pub decreases-fields : goal.decreases-fields
decreases-fields l = 8 * l.levels + 5

abbrev pub decreases-closed_fields : goal.decreases-closed_fields
decreases-closed_fields l = 8 * l.levels + 6

abbrev pub invariant-fields-loop-fields : goal.invariant-fields-loop-fields
invariant-fields-loop-fields l = record {
  read : Looped (next_item s.Semicolon (spec.typed_names l.levels)) l.fields l.parser.rest.now l.initial.fields l.initial.parser.rest.now;
  shorter : length l.parser.rest.now ≤ length l.initial.parser.rest.now;
}

abbrev pub decreases-fields-loop-fields : goal.decreases-fields-loop-fields
decreases-fields-loop-fields l = length l.parser.rest.now
