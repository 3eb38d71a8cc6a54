use Rattle.std.proofs.Common.{◌≡◌, ◌++◌, drop}
use Rattle.ob_mean.specs.Shapes.{opening_row}
use Rattle.ob_table.specs.Tables.{row_sizes}
use Rattle.ob_gen.proofs.compile.variable_table.Given as goal

abbrev pub invariant-loop-variable : goal.invariant-loop-variable
invariant-loop-variable l = l.table ++ row_sizes (opening_row (drop l.variable-index l.variables)) ≡ row_sizes (opening_row l.variables)
