use Rattle.std.proofs.Common.{◌≡◌, ◌++◌, drop}
use Rattle.ob_mean.specs.Measured.{offsets}
use Rattle.ob_mean.proofs.measured.offsets_of.Given as goal

abbrev pub invariant-loop-shape : goal.invariant-loop-shape
invariant-loop-shape l = l.offsets.items ++ offsets l.cells (drop l.shape-index l.shapes) ≡ offsets 0 l.shapes
