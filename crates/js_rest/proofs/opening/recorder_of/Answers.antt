use Rattle.js_rest.proofs.Fresh.{fresh_recorder}
use Rattle.js_rest.proofs.opening.recorder_of.Goals as goal

pub returns : goal.returns
returns c = fresh_recorder c.new.result c.args.path c.args.notebook c.new.ensures.path c.new.ensures.stands
