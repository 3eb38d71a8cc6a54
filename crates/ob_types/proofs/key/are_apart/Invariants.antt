use Rattle.std.proofs.Common.{◌≡◌, drop}
use Rattle.ob_types.specs.Numbered as spec
use Rattle.ob_types.proofs.key.are_apart.Given as goal

abbrev pub invariant-loop-i : goal.invariant-loop-i
invariant-loop-i l = spec.are_apart l.left l.right ≡ spec.are_apart (drop l.i l.left) (drop l.i l.right)
