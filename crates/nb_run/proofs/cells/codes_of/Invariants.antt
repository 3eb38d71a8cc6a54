use Rattle.std.proofs.Common.{length, drop, ◌++◌, ◌-◌, ◌≡◌}
use Rattle.nb_run.specs.Runs.{code_cells}
use Rattle.nb_run.proofs.cells.codes_of.Given as goal

-- the code cells before this place
abbrev pub invariant-cells : goal.invariant-cells
invariant-cells l = code_cells l.cells ≡ l.codes.items ++ code_cells (drop l.place l.cells)

abbrev pub decreases-cells : goal.decreases-cells
decreases-cells l = length l.cells - l.place
