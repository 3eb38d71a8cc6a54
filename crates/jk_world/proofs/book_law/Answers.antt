use Rattle.jk_world.proofs.Recorded.{cells_recorded}
use Rattle.jk_world.proofs.book_law.Goals as goal

pub returns : goal.returns
returns c = cells_recorded
