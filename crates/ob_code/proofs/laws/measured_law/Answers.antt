use Rattle.ob_code.proofs.machine.Never.{runs_safely}
use Rattle.ob_code.proofs.laws.measured_law.Goals as goal

pub returns : goal.returns
returns c = runs_safely
