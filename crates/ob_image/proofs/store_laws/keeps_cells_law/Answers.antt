use Rattle.ob_image.proofs.Runs.{each_keeps_cells}
use Rattle.ob_image.proofs.store_laws.keeps_cells_law.Goals as goal

pub returns : goal.returns
returns c = each_keeps_cells
