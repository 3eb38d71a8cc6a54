use Rattle.std.proofs.Common.{◌++◌, sym, ◌∙◌}
use Rattle.std.proofs.lemmas.List.{append-nil}
use Rattle.jk_queues.specs.Pool.{offered_by}
use Rattle.jk_run.specs.Hand.{hand}
use Rattle.jk_run.proofs.Acting.{jobs_from}
use Rattle.jk_run.proofs.jobs.give_jobs.Goals as goal

pub returns-in-None-clause-acts : goal.returns-in-None-clause-acts
returns-in-None-clause-acts g c =
    jobs_from g.L.Language.spoken c.args.kernel.now c.give_all.new.kernel (offered_by c.args.pool.now ++ hand c.args.job) (offered_by c.offer_hand.new.pool) (offered_by c.give_all.new.pool ++ hand c.give_all.result.0)
    (sym c.in-None.ensures.offered ∙ append-nil (offered_by c.offer_hand.new.pool)) c.give_all.ensures.acts
