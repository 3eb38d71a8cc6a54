use Rattle.std.proofs.Common.{◌∙◌}
use Rattle.std.proofs.lemmas.Result.{IfOk-weaker}
use Rattle.js_contents.proofs.Files.{as_text, as_bytes}
use Rattle.js_contents.proofs.read.file_value.Goals as goal

pub returns-in-Ok-clause-form : goal.returns-in-Ok-clause-form
returns-in-Ok-clause-form c =
    IfOk-weaker c.text_model.result _ _ (λ v e. e ∙ as_text c.args.about.now c.args.bytes.now c.in-Ok.text.now c.in-Ok.ensures.cases.0 c.in-Ok.ensures.cases.1) c.text_model.ensures.form

pub returns-in_ok-text-in-Err-clause-form : goal.returns-in_ok-text-in-Err-clause-form
returns-in_ok-text-in-Err-clause-form c =
    IfOk-weaker c.text_model-in-Err.result _ _ (λ v e. e ∙ as_bytes c.args.about.now c.args.bytes.now c.as_str.result.now (c.as_str.ensures.value ∙ c.in_ok-text-in-Err.ensures.text) c.in-Err.ensures.cases.0) c.text_model-in-Err.ensures.form
