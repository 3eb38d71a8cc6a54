use Rattle.ob_types.specs.Numbered as spec
use Rattle.ob_types.proofs.alike.same_below.Given as goal

abbrev pub invariant-loop-i : goal.invariant-loop-i
invariant-loop-i l = spec.SameBelow l.i l.left l.right
