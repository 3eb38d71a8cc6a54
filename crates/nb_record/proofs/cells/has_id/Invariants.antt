use Rattle.std.proofs.Common.{◌≡◌, drop}
use Rattle.nb_doc.specs.Documents.{ids}
use Rattle.nb_doc.specs.Ids.{is_among}
use Rattle.nb_record.proofs.cells.has_id.Given as goal

-- whether the id is among all is whether it is among those that are left
abbrev pub invariant-loop-cell : goal.invariant-loop-cell
invariant-loop-cell l = is_among (ids (drop l.cell-index l.cells)) l.id ≡ is_among (ids l.cells) l.id
