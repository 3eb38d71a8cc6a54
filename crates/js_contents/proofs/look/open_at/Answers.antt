use Rattle.std.proofs.Common.{Result, sym, subst}
use Rattle.js_shelf.specs.Shelves.{Tells, Opens}
use Rattle.js_shelf.specs.declared.opened.Opening.{Opening}
use Rattle.js_tables.specs.declared.refusal.Refusal.{Refusal}
use Rattle.js_contents.specs.Looks.{shown_opening, OpensAt}
use Rattle.js_contents.proofs.Telling.{tells_weaker}
use Rattle.js_contents.proofs.Looking.{opening_shown}
use Rattle.js_contents.proofs.look.open_at.Goals as goal

pub returns : goal.returns
returns g c =
    let path = c.args.path.now in
    let old = g.S.Shelf.contents c.args.shelf.now in
    let new = g.S.Shelf.contents c.open.new.self in
    subst (λ (r : Result Opening Refusal). Tells old new (OpensAt path r)) (sym c.shown_opening.ensures)
    (tells_weaker old new (Opens path c.open.result) (OpensAt path (shown_opening c.open.result)) (λ m n h. opening_shown path c.open.result m n h) c.open.ensures.answer)
