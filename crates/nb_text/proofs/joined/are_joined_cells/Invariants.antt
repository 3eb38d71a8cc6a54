use Rattle.std.proofs.Common.{drop}
use Rattle.std.specs.List.{AllByRecursion}
use Rattle.nb_text.specs.Joined.{IsJoinedCell}
use Rattle.nb_text.proofs.joined.are_joined_cells.Given as goal

-- if the cells that are left are joined, all are
abbrev pub invariant-loop-cell : goal.invariant-loop-cell
invariant-loop-cell l = AllByRecursion IsJoinedCell (drop l.cell-index l.cells) → AllByRecursion IsJoinedCell l.cells
