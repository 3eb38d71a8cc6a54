use Rattle.std.proofs.Common.{◌≡◌, max, drop}
use Rattle.ob_gen.specs.Generated.{most_operands, most_names}
use Rattle.ob_gen.proofs.compile.room_of.Given as goal

abbrev pub invariant-loop-line : goal.invariant-loop-line
invariant-loop-line l = record {
  operands : max l.operands (most_operands (drop l.line-index l.lines)) ≡ most_operands l.lines;
  names : max l.names (most_names (drop l.line-index l.lines)) ≡ most_names l.lines;
}
