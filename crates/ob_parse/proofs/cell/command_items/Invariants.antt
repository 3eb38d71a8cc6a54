use Rattle.std.proofs.Common.{◌≤◌, length}
use Rattle.ob_parse.specs.GrammarReading as spec
use Rattle.ob_parse_expression.specs.Reading.{if_ident}
use Rattle.ob_parse_expression.proofs.Loop.{Looped}
use Rattle.ob_parse.proofs.cell.command_items.Given as goal

abbrev pub invariant-loop-items : goal.invariant-loop-items
invariant-loop-items l = record {
  read : Looped (if_ident spec.command) l.items l.parser.rest.now l.initial.items l.initial.parser.rest.now;
  shorter : length l.parser.rest.now ≤ length l.initial.parser.rest.now;
}

abbrev pub decreases-loop-items : goal.decreases-loop-items
decreases-loop-items l = length l.parser.rest.now
