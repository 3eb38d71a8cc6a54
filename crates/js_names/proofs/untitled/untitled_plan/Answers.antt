use Rattle.std.proofs.Common.{Err, refl}
use Rattle.js_contents.proofs.Telling.{tells_weaker, tells_same}
use Rattle.js_tables.specs.Tables.{rows}
use Rattle.js_names.specs.Untitled.{Makes, MakesUntitled}
use Rattle.js_names.proofs.Steps.{untitled_after}
use Rattle.js_names.proofs.untitled.untitled_plan.Goals as goal

pub returns-in-Ok : goal.returns-in-Ok
returns-in-Ok g c =
    let r = rows c.args.tables.now in
    let given = c.args.given.now in
    let body = c.args.content.now in
    let segments = c.args.segments.now in
    let v = c.in-Ok.making in
    tells_weaker (g.S.Shelf.contents c.args.shelf.now) (g.S.Shelf.contents c.made_in.new.shelf)
    (Makes r given v c.made_in.result) (MakesUntitled r given body segments c.made_in.result)
    (untitled_after r given body segments v c.made_in.result c.in-Ok.ensures) c.made_in.ensures

pub returns-in-Err : goal.returns-in-Err
returns-in-Err g c =
    let r = rows c.args.tables.now in
    let given = c.args.given.now in
    let body = c.args.content.now in
    let segments = c.args.segments.now in
    tells_same (g.S.Shelf.contents c.args.shelf.now) (MakesUntitled r given body segments (Err c.in-Err.refusal))
    (λ m. ((λ path. refl), (Err c.in-Err.refusal, c.in-Err.ensures, refl)))
