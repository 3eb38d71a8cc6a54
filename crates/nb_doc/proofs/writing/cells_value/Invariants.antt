use Rattle.std.proofs.Common.{◌≡◌, map, take}
use Rattle.nb_doc.specs.Writing.{cell_form}
use Rattle.nb_doc.proofs.writing.cells_value.Given as goal

abbrev pub invariant-loop-cell : goal.invariant-loop-cell
invariant-loop-cell l = l.row ≡ map cell_form (take l.cell-index l.cells)
