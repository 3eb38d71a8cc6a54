use Rattle.std.proofs.Common.{ℕ, List, Some, subst}
use Rattle.js_shelf.specs.Shelves.{Tells}
use Rattle.js_contents.specs.Looks.{HasFolder}
use Rattle.js_contents.proofs.Telling.{tells_weaker}
use Rattle.js_tables.specs.Tables.{rows}
use Rattle.js_names.specs.Moves.{RenamesAt}
use Rattle.js_names.proofs.Steps.{renames_after}
use Rattle.js_names.proofs.moves.rename_at.Goals as goal

pub returns-in-Some : goal.returns-in-Some
returns-in-Some g c =
    let r = rows c.args.tables.now in
    let v = c.args.moving in
    let old = g.S.Shelf.contents c.args.shelf.now in
    let new = g.S.Shelf.contents c.has_folder.new.shelf in
    let b = c.in-Some.is_folder in
    tells_weaker old new (HasFolder v.from.path (Some b)) (RenamesAt r v c.renaming.result)
    (renames_after r v c.renaming.result b c.renaming.ensures)
    (subst (λ (path : List ℕ). Tells old new (HasFolder path (Some b))) c.as_str.ensures c.in-Some.ensures)
