use Rattle.std.proofs.Common.{Result, Option, sym, subst}
use Rattle.js_shelf.specs.Shelves.{Tells, Gets}
use Rattle.js_shelf.specs.declared.item.Item.{Item}
use Rattle.js_tables.specs.declared.refusal.Refusal.{Refusal}
use Rattle.js_contents.specs.Looks.{shown_present, PresentsItem}
use Rattle.js_contents.proofs.Telling.{tells_weaker}
use Rattle.js_contents.proofs.Looking.{items_shown}
use Rattle.js_contents.proofs.look.present_item.Goals as goal

pub returns : goal.returns
returns g c =
    let path = c.args.path.now in
    let old = g.S.Shelf.contents c.args.shelf.now in
    let new = g.S.Shelf.contents c.get.new.self in
    subst (λ (r : Result (Option Item) Refusal). Tells old new (PresentsItem path r)) (sym c.shown_present.ensures)
    (tells_weaker old new (Gets path c.get.result) (PresentsItem path (shown_present c.get.result)) (λ m n h. items_shown path c.get.result m n h) c.get.ensures.answer)
