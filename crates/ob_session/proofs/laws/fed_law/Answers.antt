use Rattle.ob_session.proofs.Cells.{each_fed}
use Rattle.ob_session.proofs.laws.fed_law.Goals as goal

pub returns : goal.returns
returns c = each_fed
