use Rattle.std.proofs.Common.{◌≡◌, ◌≤◌, take, length, reverse}
use Rattle.ob_check_scope.specs.Rule.{answer, through}
use Rattle.ob_check_decl.specs.WrittenTypes as spec
use Rattle.ob_check_decl.proofs.written_type.arrays_of.Given as goal

abbrev pub invariant-loop-i : goal.invariant-loop-i
invariant-loop-i l = (l.i ≤ length l.lengths) × (answer (through spec.array_of l.fn.element (reverse l.lengths)) ≡ answer (through spec.array_of l.so_far (reverse (take l.i l.lengths))))

abbrev pub decreases-loop-i : goal.decreases-loop-i
decreases-loop-i l = l.i
