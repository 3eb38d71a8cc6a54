use Rattle.std.proofs.Common.{◌≡◌, ◌++◌, take}
use Rattle.ob_mean.specs.Values.{image}
use Rattle.ob_mean.specs.Shapes.{opening_row}
use Rattle.ob_image.proofs.opening.push_opening.Given as goal

abbrev pub invariant-loop-variable : goal.invariant-loop-variable
invariant-loop-variable l = l.cells.items ≡ l.initial.cells.items ++ image (opening_row (take l.variable-index l.variables))
