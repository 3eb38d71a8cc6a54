use Rattle.std.proofs.Common.{ℕ, List, Ok, Err, refl, subst}
use Rattle.js_shelf.specs.Shelves.{Tells}
use Rattle.js_tables.specs.Tables.{rows}
use Rattle.js_contents.specs.Looks.{HasNames}
use Rattle.js_contents.specs.Reads.{ShowsNamed, ShowsFolder}
use Rattle.js_contents.proofs.Telling.{tells_then, tells_weaker}
use Rattle.js_contents.proofs.Steps.{folder_ok}
use Rattle.js_contents.proofs.read.folder_plan.Goals as goal

pub returns-in-Ok : goal.returns-in-Ok
returns-in-Ok g c =
    let r = rows c.args.tables.now in
    let about = c.args.about.now in
    tells_then (g.S.Shelf.contents c.args.shelf.now) (g.S.Shelf.contents c.names_in.new.shelf) (g.S.Shelf.contents c.named_plan.new.shelf)
    (HasNames about.path (Ok c.in-Ok.names)) (ShowsNamed r about c.in-Ok.names c.named_plan.result) (ShowsFolder r about c.named_plan.result)
    (subst (λ (path : List ℕ). Tells (g.S.Shelf.contents c.args.shelf.now) (g.S.Shelf.contents c.names_in.new.shelf) (HasNames path (Ok c.in-Ok.names))) c.as_str.ensures c.in-Ok.ensures)
    (subst (λ (names : List (List ℕ)). Tells (g.S.Shelf.contents c.names_in.new.shelf) (g.S.Shelf.contents c.named_plan.new.shelf) (ShowsNamed r about names c.named_plan.result)) c.as_slice.ensures c.named_plan.ensures)
    (λ m k n h j. folder_ok r about c.in-Ok.names c.named_plan.result m k n h j)

pub returns-in-Err : goal.returns-in-Err
returns-in-Err g c =
    let r = rows c.args.tables.now in
    let about = c.args.about.now in
    tells_weaker (g.S.Shelf.contents c.args.shelf.now) (g.S.Shelf.contents c.names_in.new.shelf)
    (HasNames about.path (Err c.in-Err.refusal)) (ShowsFolder r about (Err c.in-Err.refusal))
    (λ m n h. (h.0, (Err c.in-Err.refusal, h.1, refl)))
    (subst (λ (path : List ℕ). Tells (g.S.Shelf.contents c.args.shelf.now) (g.S.Shelf.contents c.names_in.new.shelf) (HasNames path (Err c.in-Err.refusal))) c.as_str.ensures c.in-Err.ensures)
