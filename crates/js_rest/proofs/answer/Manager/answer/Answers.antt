use Rattle.js_tables.specs.Tables.{rows}
use Rattle.js_rest.specs.Answers.{IsAnswer, path_of}
use Rattle.js_rest.specs.Parts.{Steps}
use Rattle.js_rest.specs.Routes.{route_of}
use Rattle.js_rest.proofs.Composing.{composed, composed_alone}
use Rattle.js_rest.proofs.Telling.{tells_weaker}
use Rattle.js_rest.proofs.answer.Manager.answer.Goals as goal

pub returns-clause-shelf : goal.returns-clause-shelf
returns-clause-shelf g c =
    let given = c.args.given.now in
    let request = c.args.request.now in
    let r = rows c.args.self.now.tables in
    let s = rows c.step-outcome.new.self.tables in
    let l = c.args.self.now.running in
    let k = c.step-outcome.new.self.running in
    let begins = g.L.Running.begins in
    let tells = g.L.Running.tells in
    tells_weaker (g.S.Shelf.contents c.args.shelf.now) (g.S.Shelf.contents c.step-outcome.new.shelf)
    (Steps begins tells given request r s l k c.step-outcome.result) (IsAnswer begins tells given request r s l k c.finish.result)
    (λ m n h. composed begins tells given request r s l k c.step-outcome.result c.finish.result m n h c.finish.ensures) c.step-outcome.ensures.shelf

pub returns-clause-alone : goal.returns-clause-alone
returns-clause-alone g c =
    let request = c.args.request.now in
    composed_alone g.L.Running.begins g.L.Running.tells (route_of (path_of request)) c.args.given.now request (rows c.args.self.now.tables) (rows c.step-outcome.new.self.tables)
    c.args.self.now.running c.step-outcome.new.self.running c.step-outcome.result c.finish.result c.step-outcome.ensures.alone c.finish.ensures
