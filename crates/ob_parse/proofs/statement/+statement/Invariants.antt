use Rattle.std.proofs.Common.{◌≤◌, length, ◌+◌, ◌*◌}
use Rattle.ob_scan.specs.declared.token.Symbol.TheVariants as s
use Rattle.ob_parse.specs.StatementReading as spec
use Rattle.ob_parse_expression.specs.Reading.{next_item}
use Rattle.ob_parse_expression.proofs.Loop.{Looped}
use Rattle.ob_parse.proofs.statement.+statement.Given as goal

abbrev pub decreases-statements : goal.decreases-statements
decreases-statements l = 8 * l.levels

abbrev pub decreases-next_statement : goal.decreases-next_statement
decreases-next_statement l = 8 * l.levels + 7

abbrev pub decreases-statement : goal.decreases-statement
decreases-statement l = 8 * l.levels + 6

abbrev pub decreases-if_statement : goal.decreases-if_statement
decreases-if_statement l = 8 * l.levels + 5

abbrev pub decreases-while_statement : goal.decreases-while_statement
decreases-while_statement l = 8 * l.levels + 5

abbrev pub decreases-repeat_statement : goal.decreases-repeat_statement
decreases-repeat_statement l = 8 * l.levels + 5

abbrev pub decreases-elsifs : goal.decreases-elsifs
decreases-elsifs l = 8 * l.levels + 4

abbrev pub decreases-elsif : goal.decreases-elsif
decreases-elsif l = 8 * l.levels + 3

abbrev pub decreases-branch : goal.decreases-branch
decreases-branch l = 8 * l.levels + 2

abbrev pub decreases-otherwise : goal.decreases-otherwise
decreases-otherwise l = 8 * l.levels + 1

abbrev pub decreases-for_statement : goal.decreases-for_statement
decreases-for_statement l = 8 * l.levels + 5

abbrev pub decreases-case_statement : goal.decreases-case_statement
decreases-case_statement l = 8 * l.levels + 5

abbrev pub decreases-cases : goal.decreases-cases
decreases-cases l = 8 * l.levels + 4

abbrev pub decreases-next_case : goal.decreases-next_case
decreases-next_case l = 8 * l.levels + 3

abbrev pub decreases-case : goal.decreases-case
decreases-case l = 8 * l.levels + 2

abbrev pub decreases-labelled : goal.decreases-labelled
decreases-labelled l = 8 * l.levels + 1

abbrev pub invariant-elsifs-loop-others : goal.invariant-elsifs-loop-others
invariant-elsifs-loop-others l = record {
  read : Looped (spec.elsif l.levels (spec.statements l.levels) l.word) l.others l.parser.rest.now l.initial.others l.initial.parser.rest.now;
  shorter : length l.parser.rest.now ≤ length l.initial.parser.rest.now;
}

abbrev pub decreases-elsifs-loop-others : goal.decreases-elsifs-loop-others
decreases-elsifs-loop-others l = length l.parser.rest.now

abbrev pub invariant-statements-loop-statements : goal.invariant-statements-loop-statements
invariant-statements-loop-statements l = record {
  read : Looped (next_item s.Semicolon (spec.statement l.inside (spec.statements l.inside))) l.statements l.parser.rest.now l.initial.statements l.initial.parser.rest.now;
  shorter : length l.parser.rest.now ≤ length l.initial.parser.rest.now;
}

abbrev pub decreases-statements-loop-statements : goal.decreases-statements-loop-statements
decreases-statements-loop-statements l = length l.parser.rest.now

abbrev pub invariant-cases-loop-cases : goal.invariant-cases-loop-cases
invariant-cases-loop-cases l = record {
  read : Looped (next_item s.Bar (spec.case_phrase l.levels (spec.statements l.levels))) l.cases l.parser.rest.now l.initial.cases l.initial.parser.rest.now;
  shorter : length l.parser.rest.now ≤ length l.initial.parser.rest.now;
}

abbrev pub decreases-cases-loop-cases : goal.decreases-cases-loop-cases
decreases-cases-loop-cases l = length l.parser.rest.now
