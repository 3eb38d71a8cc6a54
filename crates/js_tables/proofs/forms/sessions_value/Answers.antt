use Rattle.std.proofs.Common.{ap, sym, ◌∙◌}
use Rattle.js_tables.specs.Forms.{with_form}
use Rattle.js_tables.proofs.SessionForms.{forms_more}
use Rattle.js_tables.proofs.forms.sessions_value.Goals as goal

pub loop-kernel-preserved : goal.loop-kernel-preserved
loop-kernel-preserved c =
    c.in_ok-push_session.ensures
    ∙ ap (λ l. with_form l c.kernel-item.result c.kernel-item.result.session) c.loop-kernel.invariant
    ∙ sym (forms_more c.args.kernels.now c.loop-kernel.kernel-index c.kernel-item.result c.loop-kernel-test.true c.kernel-item.is)
