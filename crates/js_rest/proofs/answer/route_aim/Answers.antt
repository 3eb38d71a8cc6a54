use Rattle.std.proofs.Common.{Some, refl, sym, subst}
use Rattle.js_shelf.specs.Shelves.{Tells}
use Rattle.js_tables.specs.Tables.{rows}
use Rattle.js_contents.specs.Reads.{Comes}
use Rattle.js_contents.proofs.Aiming.{comes_planned}
use Rattle.js_rest.specs.Contents as contents
use Rattle.js_rest.specs.declared.route.Route.{Route}
use Rattle.js_rest.specs.declared.route.Route.TheVariants as route
use Rattle.js_rest.specs.Answers.{FindsSessions, IsFoundOn, IsFoundAlone}
use Rattle.js_rest.specs.Parts.{AimsOn}
use Rattle.js_rest.proofs.Finding.{tables_found, tables_alone, contents_on, sessions_on, any_alone}
use Rattle.js_rest.proofs.Telling.{tells_weaker, tells_same}
use Rattle.js_rest.proofs.answer.route_aim.Goals as goal

pub returns-in-Contents-clause-shelf : goal.returns-in-Contents-clause-shelf
returns-in-Contents-clause-shelf g c =
    let r = rows c.args.inputs.tables.now in
    let given = c.args.inputs.given.now in
    let request = c.args.inputs.request.now in
    let done = c.contents_aim.result in
    let old = g.S.Shelf.contents c.args.shelf.now in
    let new = g.S.Shelf.contents c.contents_aim.new.shelf in
    subst (λ (x : Route). Tells old new (AimsOn x r given request done)) (sym c.in-Contents.is)
    (tells_weaker old new (contents.Aims r given request c.args.segments.now done) (AimsOn route.Contents r given request done)
    (contents_on r given request c.args.segments.now done c.requires.segments) c.contents_aim.ensures)

pub returns-in-Contents-clause-alone : goal.returns-in-Contents-clause-alone
returns-in-Contents-clause-alone g c =
    let r = rows c.args.inputs.tables.now in
    subst (λ (x : Route). Comes (IsFoundAlone (Some x) r c.args.inputs.given.now c.args.inputs.request.now) c.contents_aim.result) (sym c.in-Contents.is)
    (any_alone r c.args.inputs.given.now c.args.inputs.request.now c.contents_aim.result)

pub returns-in-Sessions-clause-shelf : goal.returns-in-Sessions-clause-shelf
returns-in-Sessions-clause-shelf g c =
    let r = rows c.args.inputs.tables.now in
    let given = c.args.inputs.given.now in
    let request = c.args.inputs.request.now in
    let found = c.all_sessions.result in
    let done = c.planned.result in
    let old = g.S.Shelf.contents c.args.shelf.now in
    let new = g.S.Shelf.contents c.all_sessions.new.shelf in
    subst (λ (x : Route). Tells old new (AimsOn x r given request done)) (sym c.in-Sessions.is)
    (tells_weaker old new (FindsSessions r given request found) (AimsOn route.Sessions r given request done) (sessions_on r given request found done c.planned.ensures) c.all_sessions.ensures.shelf)

pub returns-in-Sessions-clause-alone : goal.returns-in-Sessions-clause-alone
returns-in-Sessions-clause-alone g c =
    let r = rows c.args.inputs.tables.now in
    let given = c.args.inputs.given.now in
    let request = c.args.inputs.request.now in
    subst (λ (x : Route). Comes (IsFoundAlone (Some x) r given request) c.planned.result) (sym c.in-Sessions.is)
    (comes_planned (IsFoundAlone (Some route.Sessions) r given request) c.all_sessions.result c.planned.result c.planned.ensures c.all_sessions.ensures.alone)

pub returns-in_default-clause-shelf : goal.returns-in_default-clause-shelf
returns-in_default-clause-shelf g c =
    let r = rows c.args.inputs.tables.now in
    let given = c.args.inputs.given.now in
    let request = c.args.inputs.request.now in
    let found = c.tables_plan.result in
    let done = c.planned-in_default.result in
    let which = c.args.route in
    tells_same (g.S.Shelf.contents c.args.shelf.now) (AimsOn which r given request done)
    (λ m. (
      (λ path. refl),
      comes_planned (IsFoundOn which m r given request) found done c.planned-in_default.ensures
          (tables_found which m r given request found c.in_default.not-Contents c.in_default.not-Sessions c.tables_plan.ensures),
    ))

pub returns-in_default-clause-alone : goal.returns-in_default-clause-alone
returns-in_default-clause-alone g c =
    let r = rows c.args.inputs.tables.now in
    let given = c.args.inputs.given.now in
    let request = c.args.inputs.request.now in
    let found = c.tables_plan.result in
    comes_planned (IsFoundAlone (Some c.args.route) r given request) found c.planned-in_default.result c.planned-in_default.ensures
    (tables_alone c.args.route r given request found c.in_default.not-Contents c.in_default.not-Sessions c.tables_plan.ensures)
