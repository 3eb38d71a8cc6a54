use Rattle.std.proofs.Common.{◌≡◌, ◌++◌, drop}
use Rattle.ob_mean.specs.Values.{append}
use Rattle.ob_mean.specs.Shapes.{zeros}
use Rattle.ob_gen.specs.Code.{parameter_row}
use Rattle.ob_table.specs.Tables.{row_sizes}
use Rattle.ob_gen.proofs.compile.own_table.Given as goal

abbrev pub invariant-loop-parameter : goal.invariant-loop-parameter
invariant-loop-parameter l = l.table ++ row_sizes (append (parameter_row (drop l.parameter-index l.parameters)) (zeros l.own)) ≡ row_sizes (append (parameter_row l.parameters) (zeros l.own))

abbrev pub invariant-loop-shape : goal.invariant-loop-shape
invariant-loop-shape l = l.table ++ row_sizes (zeros (drop l.shape-index l.own)) ≡ row_sizes (append (parameter_row l.parameters) (zeros l.own))
