use Rattle.std.proofs.Common.{◌≤◌, length, drop}
use Rattle.ob_types.specs.Forms as spec
use Rattle.ob_types.proofs.places.map_of.Given as goal

abbrev pub invariant-loop-i : goal.invariant-loop-i
invariant-loop-i l = (l.i ≤ length l.fields) × spec.IsIndexFrom l.i l.places (drop l.i l.fields)

abbrev pub decreases-loop-i : goal.decreases-loop-i
decreases-loop-i l = l.i
