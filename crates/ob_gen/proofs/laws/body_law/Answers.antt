use Rattle.ob_gen.proofs.machine.Behaves.{body_behaves}
use Rattle.ob_gen.proofs.laws.body_law.Goals as goal

pub returns : goal.returns
returns c = body_behaves
