use Rattle.jk_world.proofs.Ordered.{answered_in_order}
use Rattle.jk_world.proofs.order_law.Goals as goal

pub returns : goal.returns
returns g c = λ log legal. answered_in_order g.L.Language.spoken log legal.each
