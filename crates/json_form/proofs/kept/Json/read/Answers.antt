use Rattle.std.proofs.Common.{sym, ◌∙◌}
use Rattle.serde_json.specs.View.{view as data_of}
use Rattle.json_form.proofs.Floats.{read-whole}
use Rattle.json_form.proofs.kept.Json.read.Goals as goal

-- src/kept.rt:63:9
pub invariant_of-result : goal.invariant_of-result
invariant_of-result c = read-whole c.args.text.now (data_of c.in-Ok.value) c.in-Ok.ensures.ok (sym c.in_ok-holds_float.ensures ∙ c.if-branch.false)
