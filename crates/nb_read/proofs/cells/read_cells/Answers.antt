use Rattle.nb_read.specs.Lent.{items_data}
use Rattle.nb_read.proofs.cells.read_cells.Goals as goal

pub returns : goal.returns
returns c = record { items = items_data c.in_ok-items.items.now.items; has_items = c.in_ok-items.ensures; members = c.in_ok-found.ensures }
