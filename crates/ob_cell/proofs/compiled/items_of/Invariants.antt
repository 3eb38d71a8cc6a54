use Rattle.std.proofs.Common.{◌≡◌}
use Rattle.ob_cell.proofs.compiled.items_of.Given as goal

abbrev pub invariant-loop-face : goal.invariant-loop-face
invariant-loop-face l = l.items ≡ l.yielded
