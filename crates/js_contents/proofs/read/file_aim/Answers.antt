use Rattle.js_contents.proofs.Aiming.{file_aimed, file_refused}
use Rattle.js_contents.proofs.read.file_aim.Goals as goal

pub returns-in-Ok : goal.returns-in-Ok
returns-in-Ok g c =
    file_aimed (g.S.Shelf.contents c.args.shelf.now) (g.S.Shelf.contents c.open_at.new.shelf) c.args.about c.as_str.result.now c.in-Ok.opening c.as_str.ensures c.in-Ok.ensures

pub returns-in-Err : goal.returns-in-Err
returns-in-Err g c =
    file_refused (g.S.Shelf.contents c.args.shelf.now) (g.S.Shelf.contents c.open_at.new.shelf) c.args.about c.as_str.result.now c.in-Err.refusal c.as_str.ensures c.in-Err.ensures
