use Rattle.ob_code.proofs.machine.Never.{runs_safely}
use Rattle.ob_gen.proofs.machine.Told.{generated_measured}
use Rattle.ob_gen.proofs.laws.safety_law.Goals as goal

pub returns : goal.returns
returns c = λ faces m code formed made. let h = generated_measured faces m code formed made in (h, runs_safely code h)
