use Rattle.ob_image.proofs.Counted.{bounds_there}
use Rattle.ob_image.proofs.module_cells.bounds.Goals as goal

pub returns-then-number-code : goal.returns-then-number-code
returns-then-number-code c = λ modules known h.
    bounds_there modules known c.args.code.now c.args.number c.first_cell.result c.first_cell-then-number-code.result h c.first_cell.ensures c.first_cell-then-number-code.ensures
