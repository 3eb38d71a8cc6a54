use Rattle.ob_image.proofs.Loading.{each_loads_cells}
use Rattle.ob_image.proofs.store_laws.loads_cells_law.Goals as goal

pub returns : goal.returns
returns c = each_loads_cells
