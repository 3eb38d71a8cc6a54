use Rattle.std.proofs.Common.{◌≤◌, length}
use Rattle.ob_scan.specs.declared.token.Symbol.TheVariants as s
use Rattle.ob_parse.specs.GrammarReading as spec
use Rattle.ob_parse_expression.specs.Reading.{next_item}
use Rattle.ob_parse_expression.proofs.Loop.{Looped}
use Rattle.ob_parse.proofs.module.import_items.Given as goal

abbrev pub invariant-loop-imports : goal.invariant-loop-imports
invariant-loop-imports l = record {
  read : Looped (next_item s.Comma spec.import_of) l.imports l.parser.rest.now l.initial.imports l.initial.parser.rest.now;
  shorter : length l.parser.rest.now ≤ length l.initial.parser.rest.now;
}

abbrev pub decreases-loop-imports : goal.decreases-loop-imports
decreases-loop-imports l = length l.parser.rest.now
