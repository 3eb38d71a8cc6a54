use Rattle.jk_world.proofs.Replied.{shown_once}
use Rattle.jk_world.proofs.answer_law.Goals as goal

pub returns : goal.returns
returns g c = λ log legal at a asked there asks. shown_once g.L.Language.spoken log legal.each at a asked there asks
