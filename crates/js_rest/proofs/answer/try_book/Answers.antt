use Rattle.std.proofs.Common.{refl}
use Rattle.js_tables.specs.Tables.{rows}
use Rattle.js_rest.proofs.Putting.{tries_book}
use Rattle.js_rest.proofs.answer.try_book.Goals as goal

pub returns-clause-shelf : goal.returns-clause-shelf
returns-clause-shelf g c =
    tries_book g.L.Running.begins g.L.Running.tells (g.S.Shelf.contents c.args.shelf.now) (g.S.Shelf.contents c.put_book.new.shelf)
    (g.S.Shelf.faults c.args.shelf.now) (g.S.Shelf.faults c.put_book.new.shelf) c.args.path c.args.book c.put_book.result c.told_of.result (rows c.args.tables.now)
    (rows c.put_book.new.tables) c.args.running.now c.args.running.now c.put_book.ensures.puts c.told_of.ensures refl
