use Rattle.std.proofs.Common.{◌≡◌, take}
use Rattle.ob_image.proofs.copies.copy_shapes.Given as goal

abbrev pub invariant-loop-shape : goal.invariant-loop-shape
invariant-loop-shape l = l.copies ≡ take l.shape-index l.shapes
