use Rattle.std.proofs.Common.{◌≡◌, ◌≤◌, length, take, reverse}
use Rattle.ob_check_scope.specs.Scope as spec
use Rattle.ob_check_scope.proofs.scope.nearest.Given as goal

abbrev pub invariant-loop-i : goal.invariant-loop-i
invariant-loop-i l = (l.i ≤ length l.blocks) × (spec.nearest (reverse l.blocks) l.name ≡ spec.nearest (reverse (take l.i l.blocks)) l.name)

abbrev pub decreases-loop-i : goal.decreases-loop-i
decreases-loop-i l = l.i
