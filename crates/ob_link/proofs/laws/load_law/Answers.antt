use Rattle.ob_link.proofs.Loads.{each_load}
use Rattle.ob_link.proofs.laws.load_law.Goals as goal

pub returns : goal.returns
returns c = each_load
