use Rattle.jk_world.proofs.Counted.{tell_counts}
use Rattle.jk_world.proofs.count_law.Goals as goal

pub returns : goal.returns
returns g c = λ log legal. tell_counts g.L.Language.spoken log legal.each
