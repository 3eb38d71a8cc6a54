use Rattle.std.proofs.Common.{Ok, Err, refl, ap, subst}
use Rattle.js_contents.specs.declared.read.Aim.{Aim}
use Rattle.js_contents.specs.declared.read.Aim.TheVariants as aim
use Rattle.js_contents.specs.Reads.{Comes}
use Rattle.js_http.specs.Origins.{is_own}
use Rattle.js_http.specs.declared.response.Response.TheVariants.{Refused}
use Rattle.js_shelf.specs.Shelves.{Tells}
use Rattle.js_tables.specs.declared.plan.Answer.TheVariants.{Reply}
use Rattle.js_tables.specs.Tables.{rows}
use Rattle.js_rest.specs.declared.parts.Outcome.TheVariants as outcome
use Rattle.js_rest.specs.Answers.{CarriesOut, IsFoundAloneIf, path_of}
use Rattle.js_rest.specs.Parts.{Aims, Steps}
use Rattle.js_rest.specs.Routes.{route_of}
use Rattle.js_rest.proofs.Telling.{tells_then, tells_weaker, answered}
use Rattle.js_rest.proofs.answer.Manager.step.Goals as goal

pub returns-in-Plan-clause-shelf : goal.returns-in-Plan-clause-shelf
returns-in-Plan-clause-shelf g c =
    let given = c.args.given.now in
    let request = c.args.request.now in
    let r = rows c.args.self.now.tables in
    let s = rows c.carry_out.new.self.tables in
    let l = c.args.self.now.running in
    let k = c.carry_out.new.self.running in
    let begins = g.L.Running.begins in
    let tells = g.L.Running.tells in
    let plan = c.in-Plan.plan in
    let old = g.S.Shelf.contents c.args.shelf.now in
    let found = g.S.Shelf.contents c.find_aim.new.shelf in
    tells_then old found (g.S.Shelf.contents c.carry_out.new.shelf)
    (Aims r given request (Ok (aim.Plan plan))) (CarriesOut begins tells plan r s l k c.carry_out.result) (Steps begins tells given request r s l k (outcome.Answered c.carry_out.result))
    (subst (λ (x : Aim). Tells old found (Aims r given request (Ok x))) c.in-Plan.is c.in-Ok.ensures.shelf) c.carry_out.ensures.shelf
    (λ m o n f h. answered begins tells given request plan r s l k c.carry_out.result m o n f h)

pub returns-in-Plan-clause-alone : goal.returns-in-Plan-clause-alone
returns-in-Plan-clause-alone g c =
    let request = c.args.request.now in
    let P = IsFoundAloneIf (is_own request.headers) (route_of (path_of request)) (rows c.args.self.now.tables) c.args.given.now request in
    (Ok c.in-Plan.plan, subst (λ (x : Aim). Comes P (Ok x)) c.in-Plan.is c.in-Ok.ensures.alone, c.carry_out.ensures.alone)

pub returns-in-File-clause-shelf : goal.returns-in-File-clause-shelf
returns-in-File-clause-shelf g c =
    let given = c.args.given.now in
    let request = c.args.request.now in
    let r = rows c.args.self.now.tables in
    let l = c.args.self.now.running in
    let begins = g.L.Running.begins in
    let tells = g.L.Running.tells in
    let old = g.S.Shelf.contents c.args.shelf.now in
    let found = g.S.Shelf.contents c.find_aim.new.shelf in
    tells_weaker old found (Aims r given request (Ok (aim.File c.in-File.about c.in-File.opening))) (Steps begins tells given request r r l l (outcome.Shown c.in-File.about c.in-File.opening))
    (λ m n h. ((refl, refl, h.0), h.1)) (subst (λ (x : Aim). Tells old found (Aims r given request (Ok x))) c.in-File.is c.in-Ok.ensures.shelf)

pub returns-in-File-clause-alone : goal.returns-in-File-clause-alone
returns-in-File-clause-alone g c =
    let request = c.args.request.now in
    let P = IsFoundAloneIf (is_own request.headers) (route_of (path_of request)) (rows c.args.self.now.tables) c.args.given.now request in
    ((refl, refl), subst (λ (x : Aim). Comes P (Ok x)) c.in-File.is c.in-Ok.ensures.alone)

pub returns-in-Err-clause-shelf : goal.returns-in-Err-clause-shelf
returns-in-Err-clause-shelf g c =
    let given = c.args.given.now in
    let request = c.args.request.now in
    let r = rows c.args.self.now.tables in
    let l = c.args.self.now.running in
    let begins = g.L.Running.begins in
    let tells = g.L.Running.tells in
    tells_weaker (g.S.Shelf.contents c.args.shelf.now) (g.S.Shelf.contents c.find_aim.new.shelf)
    (Aims r given request (Err c.in-Err.refusal)) (Steps begins tells given request r r l l (outcome.Answered (Reply (Refused c.status.result))))
    (λ m n h. (Err c.in-Err.refusal, h.1, (ap (λ s. Reply (Refused s)) c.status.ensures, (refl, refl, h.0))))
    c.in-Err.ensures.shelf

pub returns-in-Err-clause-alone : goal.returns-in-Err-clause-alone
returns-in-Err-clause-alone g c =
    (Err c.in-Err.refusal, c.in-Err.ensures.alone, (ap (λ s. Reply (Refused s)) c.status.ensures, (refl, refl)))
