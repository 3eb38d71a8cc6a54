use Rattle.std.proofs.Common.{◌≡◌, ◌∙◌, ◌++◌, [], ◌∷◌, Some, sym, take, ◌+◌}
use Rattle.serde_json.specs.View.{view}
use Rattle.js_shelf.specs.Shelves.{Same}
use Rattle.js_tables.specs.Tables.{rows}
use Rattle.js_contents.specs.Lists.{objects, ShowsObject}
use Rattle.js_contents.proofs.Telling.{tells_then}
use Rattle.js_contents.proofs.Steps.{objects_more, ok_there}
use Rattle.js_contents.proofs.list.objects.Goals as goal

pub loop-name-preserved : goal.loop-name-preserved
loop-name-preserved g c =
    let r = rows c.args.tables.now in
    let folder = c.args.folder.now in
    let names = c.args.names.now in
    let i = c.loop-name.name-index in
    let name = c.as_str.result.now in
    let d = view c.in_ok-value.value in
    let grown = ok_there c.push.result (c.push.new.self ≡ c.loop-name.row ++ d ∷ []) (sym c.is_err.ensures.value ∙ c.if-is_err.false) c.push.ensures.ok in
    tells_then (g.S.Shelf.contents c.args.shelf.now) (g.S.Shelf.contents c.loop-name.shelf) (g.S.Shelf.contents c.object.new.shelf)
    (λ m k. Same m k × (c.loop-name.row ≡ objects m r folder (take i names)))
    (ShowsObject r folder name (Some c.in_ok-value.value))
    (λ m n. Same m n × (c.push.new.self ≡ objects m r folder (take (i + 1) names)))
    c.loop-name.invariant c.in_ok-value.ensures.object
    (objects_more r folder names i c.name-item.result name c.loop-name.row c.push.new.self d c.loop-name-test.true c.name-item.is c.as_str.ensures grown)
