use Rattle.std.proofs.Common.{◌≡◌, true, false, Err}
use Rattle.js_http.specs.declared.response.ErrorStatus.TheVariants.{Forbidden}
use Rattle.js_http.specs.Origins.{is_own}
use Rattle.js_tables.specs.declared.refusal.Refusal.TheVariants.{Status}
use Rattle.js_tables.specs.Tables.{rows}
use Rattle.js_rest.specs.Answers.{path_of}
use Rattle.js_rest.specs.Parts.{AimsAt, Aims}
use Rattle.js_rest.specs.Routes.{route_of}
use Rattle.js_rest.proofs.Finding.{aims_own, aims_foreign, own_alone, foreign_alone}
use Rattle.js_rest.proofs.Telling.{tells_weaker, tells_same}
use Rattle.js_rest.proofs.answer.find_aim.Goals as goal

pub returns-then-is_own-clause-shelf : goal.returns-then-is_own-clause-shelf
returns-then-is_own-clause-shelf g c =
    let r = rows c.args.inputs.tables.now in
    let given = c.args.inputs.given.now in
    let request = c.args.inputs.request.now in
    let found = c.path_aim.result in
    let e : is_own request.headers ≡ true = cc (c.is_own.ensures, c.if-is_own.true) in
    tells_weaker (g.S.Shelf.contents c.args.shelf.now) (g.S.Shelf.contents c.path_aim.new.shelf)
    (AimsAt (route_of (path_of request)) r given request found) (Aims r given request found)
    (aims_own r given request found e) c.path_aim.ensures.shelf

pub returns-then-is_own-clause-alone : goal.returns-then-is_own-clause-alone
returns-then-is_own-clause-alone g c =
    let request = c.args.inputs.request.now in
    let e : is_own request.headers ≡ true = cc (c.is_own.ensures, c.if-is_own.true) in
    own_alone (route_of (path_of request)) (rows c.args.inputs.tables.now) c.args.inputs.given.now request c.path_aim.result e c.path_aim.ensures.alone

pub returns-else-is_own-clause-shelf : goal.returns-else-is_own-clause-shelf
returns-else-is_own-clause-shelf g c =
    let r = rows c.args.inputs.tables.now in
    let given = c.args.inputs.given.now in
    let request = c.args.inputs.request.now in
    let e : is_own request.headers ≡ false = cc (c.is_own.ensures, c.if-is_own.false) in
    tells_same (g.S.Shelf.contents c.args.shelf.now) (Aims r given request (Err (Status Forbidden))) (aims_foreign r given request e)

pub returns-else-is_own-clause-alone : goal.returns-else-is_own-clause-alone
returns-else-is_own-clause-alone g c =
    let request = c.args.inputs.request.now in
    let e : is_own request.headers ≡ false = cc (c.is_own.ensures, c.if-is_own.false) in
    foreign_alone (route_of (path_of request)) (rows c.args.inputs.tables.now) c.args.inputs.given.now request e
