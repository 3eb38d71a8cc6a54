use Rattle.std.proofs.Common.{subst}
use Rattle.js_http.specs.declared.request.Request.{Request}
use Rattle.js_tables.specs.Tables.{rows}
use Rattle.js_call.specs.Replies.{CameTo}
use Rattle.js_serve.proofs.desk.Desk.step.Goals as goal

pub returns-clause-came : goal.returns-clause-came
returns-clause-came g c =
    let desk = c.args.self.now in
    subst (λ (q : Request). CameTo q c.step-outcome.result) c.into_parts-request.ensures.request (record {
      given = c.args.given.now;
      before = rows desk.manager.tables;
      after = rows c.step-outcome.new.self.tables;
      ran = desk.manager.running;
      run = c.step-outcome.new.self.running;
      old = g.S.Shelf.contents desk.shelf;
      new = g.S.Shelf.contents c.step-outcome.new.shelf;
      shelf = c.step-outcome.ensures.shelf;
      alone = c.step-outcome.ensures.alone;
    })
