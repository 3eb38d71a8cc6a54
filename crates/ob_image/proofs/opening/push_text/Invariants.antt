use Rattle.std.proofs.Common.{◌≡◌, ◌++◌, take}
use Rattle.ob_code.specs.Machine.{text_cells}
use Rattle.ob_image.proofs.opening.push_text.Given as goal

abbrev pub invariant-loop-number : goal.invariant-loop-number
invariant-loop-number l = l.cells.items ≡ l.initial.cells.items ++ take l.number (text_cells l.count l.text)
