use Rattle.std.proofs.Common.{◌++◌, List, [], ◌∷◌, ap, ◌∙◌}
use Rattle.jk_log.specs.declared.job.Job.{Job}
use Rattle.jk_queues.specs.Pool.{offered_by}
use Rattle.jk_run.proofs.Acting.{gives_log, jobs_end, jobs_more, jobs_refused}
use Rattle.jk_run.proofs.jobs.give_all.Goals as goal

pub returns-in-Err-clause-acts : goal.returns-in-Err-clause-acts
returns-in-Err-clause-acts g c =
    jobs_refused g.L.Language.spoken c.args.kernel.now c.loop.kernel c.next_job.new.self (offered_by c.args.pool.now) (offered_by c.loop.pool) c.loop.invariant.acts c.in-Err.ensures.err

pub returns-in_default-clause-acts : goal.returns-in_default-clause-acts
returns-in_default-clause-acts g c =
    jobs_end g.L.Language.spoken c.args.kernel.now c.loop.kernel c.next_job.new.self (offered_by c.args.pool.now) (offered_by c.loop.pool) c.in-Ok.asked c.loop.invariant.acts c.in-Ok.ensures.ok c.in_default.not-Some

pub returns-in-Err-offer-clause-acts : goal.returns-in-Err-offer-clause-acts
returns-in-Err-offer-clause-acts g c =
    let job = c.in-Some-asked.job in
    let offered = c.in-Err-offer.ensures.offered in
    jobs_more g.L.Language.spoken c.args.kernel.now c.loop.kernel c.next_job.new.self (offered_by c.args.pool.now) (offered_by c.loop.pool) (offered_by c.offer.new.self ++ c.in-Err-offer.back ∷ []) c.in-Ok.asked job c.loop.invariant.acts c.in-Ok.ensures.ok c.in-Some-asked.is
    (ap (λ (j : Job). offered_by c.offer.new.self ++ j ∷ []) offered.0 ∙ ap (λ (js : List Job). js ++ job ∷ []) offered.1)

pub loop-preserved : goal.loop-preserved
loop-preserved g c =
    let job = c.in-Some-asked.job in
    let offered = rw c.in_default-offer.is at c.offer.ensures.offered in
    record {
      log = gives_log c.in-Ok.asked c.loop.kernel c.next_job.new.self c.in-Ok.ensures.ok ∙ c.loop.invariant.log;
      same = (c.offer.ensures.same.0 ∙ c.loop.invariant.same.0, c.offer.ensures.same.1 ∙ c.loop.invariant.same.1, c.offer.ensures.same.2 ∙ c.loop.invariant.same.2);
      collected = ap (λ v. v.got) c.offer.ensures.results ∙ c.loop.invariant.collected;
      acts = jobs_more g.L.Language.spoken c.args.kernel.now c.loop.kernel c.next_job.new.self (offered_by c.args.pool.now) (offered_by c.loop.pool) (offered_by c.offer.new.self) c.in-Ok.asked job c.loop.invariant.acts c.in-Ok.ensures.ok c.in-Some-asked.is offered;
    }
