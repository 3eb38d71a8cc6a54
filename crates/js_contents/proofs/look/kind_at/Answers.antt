use Rattle.std.proofs.Common.{Result, sym, subst}
use Rattle.js_shelf.specs.Shelves.{Tells, Kinds}
use Rattle.js_shelf.specs.declared.item.ItemKind.{ItemKind}
use Rattle.js_tables.specs.declared.refusal.Refusal.{Refusal}
use Rattle.js_contents.specs.Looks.{shown_kind, FindsKind}
use Rattle.js_contents.proofs.Telling.{tells_weaker}
use Rattle.js_contents.proofs.Looking.{kind_shown}
use Rattle.js_contents.proofs.look.kind_at.Goals as goal

pub returns : goal.returns
returns g c =
    let path = c.args.path.now in
    let old = g.S.Shelf.contents c.args.shelf.now in
    let new = g.S.Shelf.contents c.kind.new.self in
    subst (λ (r : Result ItemKind Refusal). Tells old new (FindsKind path r)) (sym c.shown_kind.ensures)
    (tells_weaker old new (Kinds path c.kind.result) (FindsKind path (shown_kind c.kind.result)) (λ m n h. kind_shown path c.kind.result m n h) c.kind.ensures.answer)
