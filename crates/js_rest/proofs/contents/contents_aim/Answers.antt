use Rattle.std.proofs.Common.{ℕ, List, sym, subst}
use Rattle.js_contents.specs.Reads.{Comes}
use Rattle.js_contents.specs.Stores.{put_plan}
use Rattle.js_http.specs.declared.method.Method.{Method}
use Rattle.js_http.specs.declared.method.Method.TheVariants.{Post, Put, Patch, Delete}
use Rattle.js_names.specs.Moves.{Renames}
use Rattle.js_names.specs.Untitled.{MakesUntitled}
use Rattle.js_shelf.specs.Shelves.{Same, Tells}
use Rattle.js_tables.specs.Plans.{Gives}
use Rattle.js_tables.specs.Tables.{rows}
use Rattle.js_rest.specs.Contents.{IsFoundBy, PutsPrepared}
use Rattle.js_rest.proofs.Composing.{put_made}
use Rattle.js_rest.proofs.Finding.{found_by, found_alone}
use Rattle.js_rest.proofs.contents.contents_aim.Goals as goal

pub returns-in-Get : goal.returns-in-Get
returns-in-Get g c =
    let r = rows c.args.inputs.tables.now in
    subst
    (λ (method : Method). Tells (g.S.Shelf.contents c.args.shelf.now) (g.S.Shelf.contents c.read_aim.new.shelf)
    (λ m n. Same m n × Comes (IsFoundBy method m r c.args.inputs.given.now c.args.inputs.request.now c.args.segments.now) c.read_aim.result))
    (sym c.in-Get.is) c.read_aim.ensures

pub returns-in-Put : goal.returns-in-Put
returns-in-Put g c =
    let r = rows c.args.inputs.tables.now in
    let given = c.args.inputs.given.now in
    let request = c.args.inputs.request.now in
    let found = c.prepared_plan.result in
    found_by (g.S.Shelf.contents c.args.shelf.now) (g.S.Shelf.contents c.prepared_plan.new.shelf) Put r given request c.args.segments.now found c.planned.result c.in-Put.is c.planned.ensures
    (PutsPrepared r given c.args.prepared found)
    (λ m n h.
    (h.0, subst (λ (s : List (List ℕ)). Gives found (put_plan m r given request.body s)) (sym c.requires.segments) (put_made m r given request c.args.prepared found c.requires.prepared h.1)))
    c.prepared_plan.ensures

pub returns-in-Delete : goal.returns-in-Delete
returns-in-Delete g c =
    found_alone (g.S.Shelf.contents c.args.shelf.now) Delete (rows c.args.inputs.tables.now) c.args.inputs.given.now c.args.inputs.request.now c.args.segments.now c.remove_plan.result
    c.planned-in-Delete.result c.in-Delete.is c.planned-in-Delete.ensures (λ m. c.remove_plan.ensures)

pub returns-in-Post : goal.returns-in-Post
returns-in-Post g c =
    let old = g.S.Shelf.contents c.args.shelf.now in
    let new = g.S.Shelf.contents c.untitled_plan.new.shelf in
    let r = rows c.args.inputs.tables.now in
    let given = c.args.inputs.given.now in
    let request = c.args.inputs.request.now in
    let segments = c.args.segments.now in
    let found = c.untitled_plan.result in
    found_by old new Post r given request segments found c.planned-in-Post.result c.in-Post.is c.planned-in-Post.ensures
    (MakesUntitled r given request.body segments found) (λ m n h. (h.0, h.1))
    (subst (λ (b : List ℕ). Tells old new (MakesUntitled r given b segments found)) c.as_slice.ensures c.untitled_plan.ensures)

pub returns-in-Patch : goal.returns-in-Patch
returns-in-Patch g c =
    let old = g.S.Shelf.contents c.args.shelf.now in
    let new = g.S.Shelf.contents c.rename_plan.new.shelf in
    let r = rows c.args.inputs.tables.now in
    let request = c.args.inputs.request.now in
    let segments = c.args.segments.now in
    let found = c.rename_plan.result in
    found_by old new Patch r c.args.inputs.given.now request segments found c.planned-in-Patch.result c.in-Patch.is c.planned-in-Patch.ensures
    (Renames r request.body segments found) (λ m n h. (h.0, h.1))
    (subst (λ (b : List ℕ). Tells old new (Renames r b segments found)) c.as_slice-in-Patch.ensures c.rename_plan.ensures)
