use Rattle.ob_session.proofs.Cells.{each_lawful}
use Rattle.ob_session.proofs.laws.lawful_law.Goals as goal

pub returns : goal.returns
returns c = each_lawful
