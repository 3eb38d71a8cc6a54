use Rattle.std.proofs.Common.{◌≡◌, map, take}
use Rattle.ob_cell.specs.Texts.{import_of}
use Rattle.ob_cell.proofs.compiled.keyed_imports.Given as goal

abbrev pub invariant-loop-import : goal.invariant-loop-import
invariant-loop-import l = l.keyed ≡ map import_of (take l.import-index l.imports)
