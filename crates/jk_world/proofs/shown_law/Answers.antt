use Rattle.jk_world.proofs.Answered.{shown_right}
use Rattle.jk_world.proofs.shown_law.Goals as goal

pub returns : goal.returns
returns g c = λ log at legal. shown_right g.L.Language.spoken g.met.L.Language.lawful log legal.each at
