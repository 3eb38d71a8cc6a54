use Rattle.std.proofs.Common.{◌≡◌, map, take}
use Rattle.ob_cell.specs.Texts as meaning
use Rattle.ob_cell.proofs.loaded.all_loaded.Given as goal

abbrev pub invariant-loop-number : goal.invariant-loop-number
invariant-loop-number l = l.imports ≡ map (meaning.loaded_as l.fn.modules l.name) (take l.number l.fn.modules)
