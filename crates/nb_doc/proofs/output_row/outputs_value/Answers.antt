use Rattle.std.proofs.Common.{sym, ap, ◌∙◌}
use Rattle.std.proofs.Math.ListN.{drop_of_length-le}
use Rattle.nb_doc.specs.OutputRow.{row_forms}
use Rattle.nb_doc.specs.Writing.{array_of, outputs_form}
use Rattle.nb_doc.proofs.Joining.{closes}
use Rattle.nb_doc.proofs.output_row.outputs_value.Goals as goal

pub returns-clause-form : goal.returns-clause-form
unfolding outputs_form
returns-clause-form c =
    let none = drop_of_length-le c.args.outputs.now c.loop-output-test.false in
    c.into_value.ensures.form ∙ ap array_of (c.in_ok-written.ensures ∙ sym (closes c.loop-output.row) ∙ ap (row_forms c.loop-output.row) (sym none) ∙ c.loop-output.invariant)
