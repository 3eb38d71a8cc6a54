use Rattle.jk_world.proofs.Shown.{cells_shown}
use Rattle.jk_world.proofs.cell_law.Goals as goal

pub returns : goal.returns
returns g c = λ log legal at a e sent there asks is. cells_shown g.L.Language.spoken log legal.each at a e sent there asks is
