use Rattle.std.proofs.Common.{ap, ◌∙◌}
use Rattle.jk_log.specs.declared.job.Job.{Job}
use Rattle.jk_queues.specs.declared.line.Hand.{Hand}
use Rattle.jk_queues.specs.Pool.{collected_by}
use Rattle.jk_run.proofs.Acting.{hands_log, results_more, results_as}
use Rattle.jk_run.proofs.Giving.{given_hands}
use Rattle.jk_run.proofs.jobs.hand_results.Goals as goal

pub loop-preserved-in-Some-collect : goal.loop-preserved-in-Some-collect
loop-preserved-in-Some-collect g c =
    let result = c.in-Some-collect.result in
    let used = c.parsed.result in
    let collected = c.in-Some-collect.ensures in
    record {
      log = hands_log result c.loop.kernel used c.parsed.new.self c.parsed.ensures ∙ c.loop.invariant.log;
      given = λ job jobs h. given_hands result c.loop.kernel used c.parsed.new.self c.parsed.ensures job jobs (c.loop.invariant.given job jobs h);
      same = (collected.same.0 ∙ c.loop.invariant.same.0, collected.same.1 ∙ c.loop.invariant.same.1, collected.same.2 ∙ c.loop.invariant.same.2);
      jobs = collected.jobs ∙ c.loop.invariant.jobs;
      acts = results_more g.L.Language.spoken c.args.kernel.now c.loop.kernel c.parsed.new.self (collected_by c.args.pool.now) (collected_by c.loop.pool) (collected_by c.collect.new.self) result used c.loop.invariant.acts c.outcome.ensures.right c.parsed.ensures collected.collected;
    }

pub loop-preserved-in-Some-collect-2 : goal.loop-preserved-in-Some-collect-2
loop-preserved-in-Some-collect-2 g c =
    let result = c.in-Some-collect.result in
    let used = c.parsed.result in
    let collected = c.in-Some-collect.ensures in
    record {
      log = hands_log result c.loop.kernel used c.parsed.new.self c.parsed.ensures ∙ c.loop.invariant.log;
      given = λ job jobs h. given_hands result c.loop.kernel used c.parsed.new.self c.parsed.ensures job jobs (c.loop.invariant.given job jobs h);
      same = (collected.same.0 ∙ c.loop.invariant.same.0, collected.same.1 ∙ c.loop.invariant.same.1, collected.same.2 ∙ c.loop.invariant.same.2);
      jobs = collected.jobs ∙ c.loop.invariant.jobs;
      acts = results_more g.L.Language.spoken c.args.kernel.now c.loop.kernel c.parsed.new.self (collected_by c.args.pool.now) (collected_by c.loop.pool) (collected_by c.collect.new.self) result used c.loop.invariant.acts c.outcome.ensures.right c.parsed.ensures collected.collected;
    }

pub loop-preserved : goal.loop-preserved
loop-preserved g c =
    let result = c.in-Some-collect.result in
    let used = c.parsed.result in
    let collected = c.in-Some-collect.ensures in
    record {
      log = hands_log result c.loop.kernel used c.parsed.new.self c.parsed.ensures ∙ c.loop.invariant.log;
      given = λ job jobs h. given_hands result c.loop.kernel used c.parsed.new.self c.parsed.ensures job jobs (c.loop.invariant.given job jobs h);
      same = (collected.same.0 ∙ c.loop.invariant.same.0, collected.same.1 ∙ c.loop.invariant.same.1, collected.same.2 ∙ c.loop.invariant.same.2);
      jobs = collected.jobs ∙ c.loop.invariant.jobs;
      acts = results_more g.L.Language.spoken c.args.kernel.now c.loop.kernel c.parsed.new.self (collected_by c.args.pool.now) (collected_by c.loop.pool) (collected_by c.collect.new.self) result used c.loop.invariant.acts c.outcome.ensures.right c.parsed.ensures collected.collected;
    }

pub returns-in-None-collect-clause-acts : goal.returns-in-None-collect-clause-acts
returns-in-None-collect-clause-acts g c =
    results_as g.L.Language.spoken c.args.kernel.now c.loop.kernel (collected_by c.args.pool.now) (collected_by c.loop.pool) (collected_by c.collect.new.self) c.in-None-collect.ensures.collected.0 c.loop.invariant.acts
