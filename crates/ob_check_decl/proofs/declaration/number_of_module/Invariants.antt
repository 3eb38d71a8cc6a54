use Rattle.std.proofs.Common.{◌≡◌, ◌≤◌, length, take, reverse}
use Rattle.ob_check_decl.specs.Declarations as spec
use Rattle.ob_check_decl.proofs.declaration.number_of_module.Given as goal

abbrev pub invariant-loop-i : goal.invariant-loop-i
invariant-loop-i l = (l.i ≤ length l.declared) × (spec.number_among (reverse l.declared) l.place ≡ spec.number_among (reverse (take l.i l.declared)) l.place)

abbrev pub decreases-loop-i : goal.decreases-loop-i
decreases-loop-i l = l.i
