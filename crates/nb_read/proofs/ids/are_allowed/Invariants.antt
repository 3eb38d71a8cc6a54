use Rattle.std.proofs.Common.{◌≡◌, drop}
use Rattle.std.specs.List.{list_all}
use Rattle.nb_doc.specs.Documents.{ids}
use Rattle.nb_doc.specs.Ids.{is_allowed}
use Rattle.nb_read.proofs.ids.are_allowed.Given as goal

-- whether all are allowed is whether those that are left are
abbrev pub invariant-loop-cell : goal.invariant-loop-cell
invariant-loop-cell l = list_all is_allowed (ids (drop l.cell-index l.cells)) ≡ list_all is_allowed (ids l.cells)
