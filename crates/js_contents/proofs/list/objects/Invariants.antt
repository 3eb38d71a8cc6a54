use Rattle.std.proofs.Common.{◌≡◌, take}
use Rattle.js_shelf.specs.Shelves.{Tells, Same}
use Rattle.js_tables.specs.Tables.{rows}
use Rattle.js_contents.specs.Lists.{objects}
use Rattle.js_contents.proofs.list.objects.Given as goal

abbrev pub invariant-loop-name : goal.invariant-loop-name
invariant-loop-name g l =
    Tells (g.S.Shelf.contents l.fn.shelf) (g.S.Shelf.contents l.shelf)
    (λ m n. Same m n × (l.row ≡ objects m (rows l.tables) l.folder (take l.name-index l.names)))
