use Rattle.std.proofs.Common.{◌≡◌, map}
use Rattle.ob_cell.specs.Texts as meaning
use Rattle.ob_cell.proofs.loaded.loaded_for.Given as goal

abbrev pub invariant-loop-import : goal.invariant-loop-import
invariant-loop-import l = l.imports ≡ map (meaning.loaded_as l.modules l.tree.name.name) l.modules
