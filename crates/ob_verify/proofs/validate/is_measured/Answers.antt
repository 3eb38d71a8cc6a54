use Rattle.std.proofs.lemmas.Result.{IfOk-weaker}
use Rattle.ob_verify.proofs.validate.is_measured.Goals as goal

pub returns : goal.returns
returns c =
    IfOk-weaker c.have_kinds.result _ _ (λ b h yes. record { valid = c.is_valid.ensures c.if-not-is_valid.false; kinds = h yes }) c.have_kinds.ensures
