use Rattle.jk_world.proofs.Aborts.{aborts_right}
use Rattle.jk_world.proofs.abort_law.Goals as goal

pub returns : goal.returns
returns g c = λ log legal. aborts_right g.L.Language.spoken g.met.L.Language.lawful log legal.each legal.settled
