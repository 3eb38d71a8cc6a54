use Rattle.std.proofs.Common.{drop}
use Rattle.nb_doc.specs.Documents.{ids}
use Rattle.nb_doc.proofs.Distinct.{IsReading}
use Rattle.nb_doc.proofs.cell_ids.ids_of.Given as goal

-- the set has the ids before those that are left
abbrev pub invariant-loop-cell : goal.invariant-loop-cell
invariant-loop-cell l = IsReading l.names (ids l.cells) (ids (drop l.cell-index l.cells))
