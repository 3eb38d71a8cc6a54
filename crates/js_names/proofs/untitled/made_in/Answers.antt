use Rattle.std.proofs.Common.{ℕ, List, Ok, Err, subst}
use Rattle.js_shelf.specs.Shelves.{Tells}
use Rattle.js_contents.specs.Looks.{HasNames}
use Rattle.js_contents.proofs.Telling.{tells_weaker}
use Rattle.js_tables.specs.Plans.{Gives}
use Rattle.js_tables.specs.Tables.{rows}
use Rattle.js_names.specs.Untitled.{made, Makes}
use Rattle.js_names.proofs.Steps.{made_after, none_made}
use Rattle.js_names.proofs.untitled.made_in.Goals as goal

pub returns-in-Ok : goal.returns-in-Ok
returns-in-Ok g c =
    let r = rows c.args.tables.now in
    let given = c.args.given.now in
    let v = c.args.making.now in
    tells_weaker (g.S.Shelf.contents c.args.shelf.now) (g.S.Shelf.contents c.names_in.new.shelf)
    (HasNames v.folder (Ok c.in-Ok.names)) (Makes r given v c.made.result)
    (made_after r given v c.in-Ok.names c.made.result (subst (λ (names : List (List ℕ)). Gives c.made.result (made r given v names)) c.as_slice.ensures c.made.ensures))
    (subst (λ (path : List ℕ). Tells (g.S.Shelf.contents c.args.shelf.now) (g.S.Shelf.contents c.names_in.new.shelf) (HasNames path (Ok c.in-Ok.names))) c.as_str.ensures c.in-Ok.ensures)

pub returns-in-Err : goal.returns-in-Err
returns-in-Err g c =
    let r = rows c.args.tables.now in
    let given = c.args.given.now in
    let v = c.args.making.now in
    tells_weaker (g.S.Shelf.contents c.args.shelf.now) (g.S.Shelf.contents c.names_in.new.shelf)
    (HasNames v.folder (Err c.in-Err.refusal)) (Makes r given v (Err c.in-Err.refusal))
    (none_made r given v c.in-Err.refusal)
    (subst (λ (path : List ℕ). Tells (g.S.Shelf.contents c.args.shelf.now) (g.S.Shelf.contents c.names_in.new.shelf) (HasNames path (Err c.in-Err.refusal))) c.as_str.ensures c.in-Err.ensures)
