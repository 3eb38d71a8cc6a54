use Rattle.serde_json.specs.View.{view}
use Rattle.json_form.proofs.WholeParts.{found_whole}
use Rattle.json_form.proofs.parts.part.Goals as goal

pub returns-clause-whole : goal.returns-clause-whole
returns-clause-whole c = found_whole c.get.result c.args.key.now (view c.args.value.now) c.requires c.get.ensures
