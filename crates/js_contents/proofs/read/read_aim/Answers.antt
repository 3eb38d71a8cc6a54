use Rattle.std.proofs.Common.{Ok, Err, refl}
use Rattle.js_tables.specs.Tables.{rows}
use Rattle.js_contents.specs.Reads.{Sees, AimsAtSeen, AimsAt}
use Rattle.js_contents.proofs.Aiming.{aim_ok}
use Rattle.js_contents.proofs.Telling.{tells_then, tells_weaker}
use Rattle.js_contents.proofs.read.read_aim.Goals as goal

pub returns-in-Ok : goal.returns-in-Ok
returns-in-Ok g c =
    let r = rows c.args.tables.now in
    let request = c.args.request.now in
    let segments = c.args.segments.now in
    tells_then (g.S.Shelf.contents c.args.shelf.now) (g.S.Shelf.contents c.seen_by.new.shelf) (g.S.Shelf.contents c.seen_aim.new.shelf)
    (Sees r request segments (Ok c.in-Ok.seen)) (AimsAtSeen r c.in-Ok.seen c.seen_aim.result) (AimsAt r request segments c.seen_aim.result)
    c.in-Ok.ensures c.seen_aim.ensures
    (λ m k n h j. aim_ok r request segments c.in-Ok.seen c.seen_aim.result m k n h j)

pub returns-in-Err : goal.returns-in-Err
returns-in-Err g c =
    let r = rows c.args.tables.now in
    let request = c.args.request.now in
    let segments = c.args.segments.now in
    tells_weaker (g.S.Shelf.contents c.args.shelf.now) (g.S.Shelf.contents c.seen_by.new.shelf)
    (Sees r request segments (Err c.in-Err.refusal)) (AimsAt r request segments (Err c.in-Err.refusal))
    (λ m n h. (h.0, (Err c.in-Err.refusal, h.1, refl)))
    c.in-Err.ensures
