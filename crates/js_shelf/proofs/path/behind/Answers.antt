use Rattle.js_shelf.proofs.PathLemmas.{behind_is}
use Rattle.js_shelf.proofs.path.behind.Goals as goal

pub returns : goal.returns
returns c = behind_is c.args.front.now c.args.text.now _ c.strip_prefix.ensures.cases
