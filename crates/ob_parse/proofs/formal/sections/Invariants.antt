use Rattle.std.proofs.Common.{◌≤◌, length}
use Rattle.ob_scan.specs.declared.token.Symbol.TheVariants as s
use Rattle.ob_parse.specs.DeclarationReading as spec
use Rattle.ob_parse_expression.specs.Reading.{next_item}
use Rattle.ob_parse_expression.proofs.Loop.{Looped}
use Rattle.ob_parse.proofs.formal.sections.Given as goal

abbrev pub invariant-loop-sections : goal.invariant-loop-sections
invariant-loop-sections l = record {
  read : Looped (next_item s.Semicolon (spec.section l.levels)) l.sections l.parser.rest.now l.initial.sections l.initial.parser.rest.now;
  shorter : length l.parser.rest.now ≤ length l.initial.parser.rest.now;
}

abbrev pub decreases-loop-sections : goal.decreases-loop-sections
decreases-loop-sections l = length l.parser.rest.now
