use Rattle.std.proofs.Common.{Ok, Err}
use Rattle.js_tables.specs.Tables.{rows}
use Rattle.js_contents.specs.Looks.{Presents}
use Rattle.js_contents.specs.Stores.{PutsAt}
use Rattle.js_contents.proofs.Telling.{tells_weaker}
use Rattle.js_contents.proofs.PutSteps.{puts_at_after, puts_at_refused}
use Rattle.js_contents.proofs.store.put_at.Goals as goal

pub returns-in-Ok : goal.returns-in-Ok
returns-in-Ok g c =
    let r = rows c.args.tables.now in
    let given = c.args.given.now in
    let body = c.args.body in
    let place = c.args.place in
    let item = c.in-Ok.item in
    tells_weaker (g.S.Shelf.contents c.args.shelf.now) (g.S.Shelf.contents c.present.new.shelf)
    (Presents c.as_str.result.now (Ok item)) (PutsAt r given body place c.put_over.result)
    (puts_at_after r given body place c.as_str.result.now item c.is_some.result c.put_over.result c.as_str.ensures c.is_some.ensures c.put_over.ensures)
    c.in-Ok.ensures

pub returns-in-Err : goal.returns-in-Err
returns-in-Err g c =
    let r = rows c.args.tables.now in
    let given = c.args.given.now in
    let path = c.as_str.result.now in
    let refusal = c.in-Err.refusal in
    tells_weaker (g.S.Shelf.contents c.args.shelf.now) (g.S.Shelf.contents c.present.new.shelf)
    (Presents path (Err refusal)) (PutsAt r given c.args.body c.args.place (Err refusal))
    (puts_at_refused r given c.args.body c.args.place path refusal c.as_str.ensures) c.in-Err.ensures
