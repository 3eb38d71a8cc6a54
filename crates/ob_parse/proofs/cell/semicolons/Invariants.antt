use Rattle.std.proofs.Common.{◌≡◌, ◌≤◌, length}
use Rattle.ob_parse.specs.GrammarReading as spec
use Rattle.ob_parse.proofs.cell.semicolons.Given as goal

abbrev pub invariant-loop-parser : goal.invariant-loop-parser
invariant-loop-parser l = record {
  read : spec.behind_semicolons l.parser.rest.now ≡ spec.behind_semicolons l.initial.parser.rest.now;
  shorter : length l.parser.rest.now ≤ length l.initial.parser.rest.now;
}

abbrev pub decreases-loop-parser : goal.decreases-loop-parser
decreases-loop-parser l = length l.parser.rest.now
