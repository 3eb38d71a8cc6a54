use Rattle.std.proofs.Common.{◌≡◌, drop}
use Rattle.ob_types.specs.Forms as spec
use Rattle.ob_types.proofs.places.place_in.Given as goal

abbrev pub invariant-loop-i : goal.invariant-loop-i
invariant-loop-i l = spec.place_from 0 l.fields l.name ≡ spec.place_from l.i (drop l.i l.fields) l.name
