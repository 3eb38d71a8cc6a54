use Rattle.std.proofs.Common.{Err, refl}
use Rattle.js_contents.proofs.Telling.{tells_weaker, tells_same}
use Rattle.js_tables.specs.Tables.{rows}
use Rattle.js_names.specs.Moves.{RenamesAt, Renames}
use Rattle.js_names.proofs.Steps.{rename_after}
use Rattle.js_names.proofs.moves.rename_plan.Goals as goal

pub returns-in-Ok : goal.returns-in-Ok
returns-in-Ok g c =
    let r = rows c.args.tables.now in
    let body = c.args.content.now in
    let segments = c.args.segments.now in
    let v = c.in-Ok.moving in
    tells_weaker (g.S.Shelf.contents c.args.shelf.now) (g.S.Shelf.contents c.rename_at.new.shelf)
    (RenamesAt r v c.rename_at.result) (Renames r body segments c.rename_at.result)
    (rename_after r body segments v c.rename_at.result c.in-Ok.ensures) c.rename_at.ensures

pub returns-in-Err : goal.returns-in-Err
returns-in-Err g c =
    let r = rows c.args.tables.now in
    let body = c.args.content.now in
    let segments = c.args.segments.now in
    tells_same (g.S.Shelf.contents c.args.shelf.now) (Renames r body segments (Err c.in-Err.refusal))
    (λ m. ((λ path. refl), (Err c.in-Err.refusal, c.in-Err.ensures, refl)))
