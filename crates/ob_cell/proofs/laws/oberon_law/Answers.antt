use Rattle.ob_cell.proofs.Lawful.{oberon_lawful}
use Rattle.ob_cell.proofs.laws.oberon_law.Goals as goal

pub returns : goal.returns
returns c = oberon_lawful
