use Rattle.std.proofs.Common.{ℕ, List, Result, sym, subst}
use Rattle.js_shelf.specs.Shelves.{Tells, Lists}
use Rattle.js_tables.specs.declared.refusal.Refusal.{Refusal}
use Rattle.js_contents.specs.Looks.{shown_names, HasNames}
use Rattle.js_contents.proofs.Telling.{tells_weaker}
use Rattle.js_contents.proofs.Looking.{names_shown}
use Rattle.js_contents.proofs.look.names_in.Goals as goal

pub returns : goal.returns
returns g c =
    let path = c.args.path.now in
    let old = g.S.Shelf.contents c.args.shelf.now in
    let new = g.S.Shelf.contents c.list.new.self in
    subst (λ (r : Result (List (List ℕ)) Refusal). Tells old new (HasNames path r)) (sym c.shown_names.ensures)
    (tells_weaker old new (Lists path c.list.result) (HasNames path (shown_names c.list.result)) (λ m n h. names_shown path c.list.result m n h) c.list.ensures.answer)
