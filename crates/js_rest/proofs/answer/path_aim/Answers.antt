use Rattle.std.proofs.Common.{◌≡◌, Option, Some, None, Err, refl, sym, subst}
use Rattle.js_http.specs.declared.response.ErrorStatus.TheVariants.{NotFound}
use Rattle.js_tables.specs.declared.refusal.Refusal.TheVariants.{Status}
use Rattle.js_tables.specs.Tables.{rows}
use Rattle.js_rest.specs.declared.route.Route.{Route}
use Rattle.js_contents.specs.Reads.{Comes}
use Rattle.js_rest.specs.Answers.{IsFoundAlone, path_of}
use Rattle.js_rest.specs.Parts.{AimsOn, AimsAt}
use Rattle.js_rest.specs.Routes.{route_of}
use Rattle.js_rest.proofs.Finding.{aims_route}
use Rattle.js_rest.proofs.Telling.{tells_weaker, tells_same}
use Rattle.js_rest.proofs.answer.path_aim.Goals as goal

pub returns-in-None-clause-shelf : goal.returns-in-None-clause-shelf
returns-in-None-clause-shelf g c =
    let r = rows c.args.inputs.tables.now in
    let given = c.args.inputs.given.now in
    let request = c.args.inputs.request.now in
    let e : route_of (path_of request) ≡ None = cc (c.in-None.ensures) in
    tells_same (g.S.Shelf.contents c.args.shelf.now) (AimsAt (route_of (path_of request)) r given request (Err (Status NotFound)))
    (λ m. aims_route None r given request (Err (Status NotFound)) e m m ((λ path. refl), refl))

pub returns-in-None-clause-alone : goal.returns-in-None-clause-alone
returns-in-None-clause-alone g c =
    let request = c.args.inputs.request.now in
    let e : route_of (path_of request) ≡ None = cc (c.in-None.ensures) in
    subst (λ (q : Option Route). IsFoundAlone q (rows c.args.inputs.tables.now) c.args.inputs.given.now request (Err (Status NotFound))) (sym e) refl

pub returns-in-Some-clause-shelf : goal.returns-in-Some-clause-shelf
returns-in-Some-clause-shelf g c =
    let r = rows c.args.inputs.tables.now in
    let given = c.args.inputs.given.now in
    let request = c.args.inputs.request.now in
    let route = c.in-Some.route in
    let found = c.route_aim.result in
    let e : route_of (path_of request) ≡ Some route = cc (c.in-Some.ensures) in
    tells_weaker (g.S.Shelf.contents c.args.shelf.now) (g.S.Shelf.contents c.route_aim.new.shelf)
    (AimsOn route r given request found) (AimsAt (route_of (path_of request)) r given request found)
    (aims_route (Some route) r given request found e) c.route_aim.ensures.shelf

pub returns-in-Some-clause-alone : goal.returns-in-Some-clause-alone
returns-in-Some-clause-alone g c =
    let request = c.args.inputs.request.now in
    let e : route_of (path_of request) ≡ Some c.in-Some.route = cc (c.in-Some.ensures) in
    subst (λ (q : Option Route). Comes (IsFoundAlone q (rows c.args.inputs.tables.now) c.args.inputs.given.now request) c.route_aim.result) (sym e) c.route_aim.ensures.alone
