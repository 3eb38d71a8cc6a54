use Rattle.js_shelf.proofs.PathLemmas.{behind_is}
use Rattle.js_names.proofs.moves.behind.Goals as goal

pub returns : goal.returns
returns c = behind_is c.args.top.now c.args.path.now _ c.strip_prefix.ensures.cases
