use Rattle.std.proofs.Common.{◌≤◌, length}
use Rattle.ob_scan.specs.declared.token.Symbol.TheVariants as s
use Rattle.ob_parse_expression.specs.Reading.{next_item, ident}
use Rattle.ob_parse_expression.proofs.Loop.{Looped}
use Rattle.ob_parse_expression.proofs.parser.Parser.idents.Given as goal

abbrev pub invariant-loop-names : goal.invariant-loop-names
invariant-loop-names l = record {
  read : Looped (next_item s.Comma ident) l.names l.self.rest.now l.initial.names l.initial.self.rest.now;
  shorter : length l.self.rest.now ≤ length l.initial.self.rest.now;
}

abbrev pub decreases-loop-names : goal.decreases-loop-names
decreases-loop-names l = length l.self.rest.now
