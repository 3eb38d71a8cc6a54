use Rattle.std.proofs.Common.{◌≤◌, length}
use Rattle.ob_scan.specs.declared.token.Symbol.TheVariants as s
use Rattle.ob_parse_expression.specs.NameReading as spec
use Rattle.ob_parse_expression.specs.Reading.{next_item}
use Rattle.ob_parse_expression.proofs.Loop.{Looped}
use Rattle.ob_parse_expression.proofs.parser.Parser.label_ranges.Given as goal

abbrev pub invariant-loop-ranges : goal.invariant-loop-ranges
invariant-loop-ranges l = record {
  read : Looped (next_item s.Comma spec.label_range) l.ranges l.self.rest.now l.initial.ranges l.initial.self.rest.now;
  shorter : length l.self.rest.now ≤ length l.initial.self.rest.now;
}

abbrev pub decreases-loop-ranges : goal.decreases-loop-ranges
decreases-loop-ranges l = length l.self.rest.now
