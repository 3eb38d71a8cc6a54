use Rattle.std.proofs.Common.{◌≡◌, drop, length}
use Rattle.ob_gen.specs.Emitted.{filled}
use Rattle.ob_gen.proofs.jumps.lead_to_end.Given as goal

abbrev pub invariant-loop-hole : goal.invariant-loop-hole
invariant-loop-hole l = record {
  rest : filled l.operands l.names l.code.items (drop l.hole-index l.holes) ≡ filled l.operands l.names l.initial.code.items l.holes;
  long : length l.code.items ≡ length l.initial.code.items;
}
