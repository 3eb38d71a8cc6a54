use Rattle.js_tables.specs.Tables.{rows}
use Rattle.js_contents.proofs.Aiming.{folder_aimed}
use Rattle.js_contents.proofs.read.folder_aim.Goals as goal

pub returns : goal.returns
returns g c =
    folder_aimed (g.S.Shelf.contents c.args.shelf.now) (g.S.Shelf.contents c.folder_plan.new.shelf) (rows c.args.tables.now) c.args.about.now c.folder_plan.result c.planned.result
    c.planned.ensures c.folder_plan.ensures
