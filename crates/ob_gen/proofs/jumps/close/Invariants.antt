use Rattle.std.proofs.Common.{◌≡◌, ◌≤◌, drop, length}
use Rattle.ob_gen.specs.Emitted.{closed}
use Rattle.ob_gen.proofs.jumps.close.Given as goal

abbrev pub invariant-loop-left : goal.invariant-loop-left
invariant-loop-left l = record {
  within : l.left ≤ length l.ends;
  long : length l.initial.code.items ≤ length l.code.items;
  done : l.code.items ≡ closed l.operands l.names l.initial.code.items (drop l.left l.ends);
}

abbrev pub decreases-loop-left : goal.decreases-loop-left
decreases-loop-left l = l.left
