use Rattle.ob_compile.proofs.Solid.{stays_solid}
use Rattle.ob_compile.proofs.laws.load_law.Goals as goal

pub returns : goal.returns
returns c = stays_solid
