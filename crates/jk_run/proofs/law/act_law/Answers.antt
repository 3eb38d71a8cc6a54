use Rattle.jk_run.proofs.Around.{act_steps}
use Rattle.jk_run.proofs.law.act_law.Goals as goal

pub returns : goal.returns
returns g c w d e act near offers does =
    let step = act_steps g.L.Language.spoken w d e act near offers does in
    (step.0, step.1, step.2, step.3)
