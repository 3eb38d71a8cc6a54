use Rattle.jk_world.proofs.Controls.{controls_shown}
use Rattle.jk_world.proofs.control_law.Goals as goal

pub returns : goal.returns
returns g c = λ log legal at a entries there once. controls_shown g.L.Language.spoken log legal.each legal.settled at a entries there once
