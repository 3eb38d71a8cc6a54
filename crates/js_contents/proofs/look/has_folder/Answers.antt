use Rattle.std.proofs.Common.{Bool, Option, sym, subst}
use Rattle.js_shelf.specs.Shelves.{Tells, Kinds}
use Rattle.js_contents.specs.Looks.{shown_folder, HasFolder}
use Rattle.js_contents.proofs.Telling.{tells_weaker}
use Rattle.js_contents.proofs.Looking.{folder_shown}
use Rattle.js_contents.proofs.look.has_folder.Goals as goal

pub returns : goal.returns
returns g c =
    let path = c.args.path.now in
    let old = g.S.Shelf.contents c.args.shelf.now in
    let new = g.S.Shelf.contents c.kind.new.self in
    subst (λ (r : Option Bool). Tells old new (HasFolder path r)) (sym c.shown_folder.ensures)
    (tells_weaker old new (Kinds path c.kind.result) (HasFolder path (shown_folder c.kind.result)) (λ m n h. folder_shown path c.kind.result m n h) c.kind.ensures.answer)
