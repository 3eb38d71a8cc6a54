use Rattle.jk_world.proofs.Stops.{stops_right}
use Rattle.jk_world.proofs.stop_law.Goals as goal

pub returns : goal.returns
returns g c = λ log legal. stops_right g.L.Language.spoken log legal.each legal.settled
