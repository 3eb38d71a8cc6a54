use Rattle.std.proofs.Common.{◌≡◌, drop}
use Rattle.ob_types.specs.Numbered as spec
use Rattle.ob_types.proofs.alike.passed_alike.Given as goal

abbrev pub invariant-loop-i : goal.invariant-loop-i
invariant-loop-i l = spec.passed_alike l.left l.right ≡ spec.passed_alike (drop l.i l.left) (drop l.i l.right)
