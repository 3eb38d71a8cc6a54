use Rattle.std.proofs.Common.{◌≡◌, ◌++◌, drop}
use Rattle.ob_mean.specs.Shapes.{zeros}
use Rattle.ob_table.specs.Tables.{row_sizes}
use Rattle.ob_gen.proofs.compile.face_table.Given as goal

abbrev pub invariant-loop-shape : goal.invariant-loop-shape
invariant-loop-shape l = l.table ++ row_sizes (zeros (drop l.shape-index l.shapes)) ≡ row_sizes (zeros l.shapes)
