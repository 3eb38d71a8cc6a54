use Rattle.js_tables.proofs.Depths.{text_shallow}
use Rattle.js_tables.proofs.body.read_text.Goals as goal

pub returns-in-Ok-clause-shallow : goal.returns-in-Ok-clause-shallow
returns-in-Ok-clause-shallow c = text_shallow c.args.text.now c.in-Ok.json c.in-Ok.ensures
