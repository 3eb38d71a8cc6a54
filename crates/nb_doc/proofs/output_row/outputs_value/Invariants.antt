use Rattle.std.proofs.Common.{◌≡◌, drop}
use Rattle.nb_doc.specs.OutputRow.{forms, row_forms}
use Rattle.nb_doc.proofs.output_row.outputs_value.Given as goal

-- what is written in all stays
abbrev pub invariant-loop-output : goal.invariant-loop-output
invariant-loop-output l = row_forms l.row (drop l.output-index l.outputs) ≡ forms l.outputs
