use Rattle.ob_session.proofs.Loads.{each_loads}
use Rattle.ob_session.proofs.laws.loads_law.Goals as goal

pub returns : goal.returns
returns c = each_loads
