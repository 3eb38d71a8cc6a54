use Rattle.ob_image.proofs.StoreCells.{each_counts_cells}
use Rattle.ob_image.proofs.store_laws.counts_cells_law.Goals as goal

pub returns : goal.returns
returns c = each_counts_cells
