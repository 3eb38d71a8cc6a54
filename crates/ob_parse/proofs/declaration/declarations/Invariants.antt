use Rattle.std.proofs.Common.{◌≤◌, length}
use Rattle.ob_parse_expression.specs.Reading.{if_ident}
use Rattle.ob_parse_expression.proofs.Loop.{Looped}
use Rattle.ob_parse.proofs.declaration.declarations.Given as goal

abbrev pub invariant-loop-items : goal.invariant-loop-items
invariant-loop-items g l = record {
  read : Looped (if_ident (g.D.Declaration.reader l.levels)) l.items l.parser.rest.now l.initial.items l.initial.parser.rest.now;
  shorter : length l.parser.rest.now ≤ length l.initial.parser.rest.now;
}

abbrev pub decreases-loop-items : goal.decreases-loop-items
decreases-loop-items g l = length l.parser.rest.now
