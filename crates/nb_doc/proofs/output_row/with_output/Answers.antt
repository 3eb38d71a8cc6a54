use Rattle.std.proofs.Common.{sym, ap, ◌∙◌}
use Rattle.serde_json.specs.View.{view}
use Rattle.nb_doc.specs.declared.notebook.Output.TheVariants as output
use Rattle.nb_doc.specs.Writing.{error_form}
use Rattle.nb_doc.proofs.Joining.{with_error, with_kept}
use Rattle.nb_doc.proofs.output_row.with_output.Goals as goal

pub returns-in_ok-value-in-Error : goal.returns-in_ok-value-in-Error
returns-in_ok-value-in-Error c =
    with_error c.args.row c.in-Error.ename c.in-Error.evalue c.in-Error.traceback (view c.in_ok-value-in-Error.value) c.args.output.now c.in-Error.is
    (c.in_ok-value-in-Error.ensures.form ∙ ap (error_form c.in-Error.ename c.in-Error.evalue) c.as_slice.ensures) c.with_other.result c.with_other.ensures

pub returns-in_ok-copy-in-Kept : goal.returns-in_ok-copy-in-Kept
returns-in_ok-copy-in-Kept c =
    let same = c.into_value.ensures.value ∙ c.in_ok-copy-in-Kept.ensures in
    with_kept c.args.row (view c.into_value.result) c.args.output.now (c.in-Kept.is ∙ ap output.Kept (sym same)) c.with_other-in-Kept.result c.with_other-in-Kept.ensures
