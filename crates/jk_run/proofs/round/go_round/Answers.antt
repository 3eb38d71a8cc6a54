use Rattle.std.proofs.Common.{List, Option, ◌++◌, ◌∙◌, ap, sym, subst}
use Rattle.std.specs.Prelude.{IfNone}
use Rattle.jk_log.specs.declared.arrival.Arrival.{Arrival}
use Rattle.jk_log.specs.declared.job.Job.{Job}
use Rattle.jk_core.specs.declared.kernel.Work.{Work}
use Rattle.jk_board.specs.Ends.{published}
use Rattle.jk_queues.specs.Ends.{taker_view, taken_by}
use Rattle.jk_queues.specs.Pool.{offered_by, collected_by, jobs_view}
use Rattle.jk_core.specs.Steps.{Works}
use Rattle.jk_run.specs.Acts.{Leads, driven}
use Rattle.jk_run.specs.Driver.{IsEmptied}
use Rattle.jk_run.specs.Hand.{hand}
use Rattle.jk_run.proofs.Rounds.{is_none, none_shown, none_left, round_took, round_shown, round_acts, round_emptied, round_given, round_handed, none_pends, from_kernel}
use Rattle.jk_run.proofs.round.go_round.Goals as goal

pub publish_pending-publisher-requires : goal.publish_pending-publisher-requires
publish_pending-publisher-requires g c =
    let driver = c.args.driver in
    round_shown g.L.Language.spoken c.args.turns (published driver.publisher) driver.kernel c.take_arrivals-taker.new.kernel c.give_jobs-job.new.kernel c.hand_results.new.kernel c.work_slice-work.new.kernel
    (offered_by driver.pool ++ hand driver.job) (offered_by c.give_jobs-job.new.pool ++ hand c.give_jobs-job.result.0) (collected_by c.give_jobs-job.new.pool) (collected_by c.hand_results.new.pool) c.work_slice-work.result
    (none_shown (published driver.publisher) driver.entries driver.kernel c.requires driver.shown)
    c.take_arrivals-taker.ensures.acts c.give_jobs-job.ensures.acts c.hand_results.ensures.acts c.work_slice-work.ensures

pub invariant_of-next : goal.invariant_of-next
invariant_of-next g c = record {
  took = round_took g.L.Language.spoken c.args.turns c.take_arrivals-taker.new.kernel c.give_jobs-job.new.kernel c.hand_results.new.kernel c.work_slice-work.new.kernel c.publish_pending-publisher.new.kernel c.work_slice-work.result (hand c.take_arrivals-taker.result.1) (taken_by c.take_arrivals-taker.result.0) c.take_arrivals-taker.ensures.took c.give_jobs-job.ensures.log c.hand_results.ensures.log c.work_slice-work.ensures c.publish_pending-publisher.ensures.log;
  own = c.publish_pending-publisher.ensures.own ∙ (c.args.driver.own ∙ sym c.take_arrivals-taker.ensures.same);
  shown = c.publish_pending-publisher.ensures.shown;
}

pub returns-clause-acts : goal.returns-clause-acts
returns-clause-acts g c k pends =
    let driver = c.args.driver in
    let given = offered_by driver.pool ++ hand driver.job in
    let jobs = offered_by c.give_jobs-job.new.pool ++ hand c.give_jobs-job.result.0 in
    let last = offered_by c.hand_results.new.pool ++ hand c.give_jobs-job.result.0 in
    let results = collected_by c.hand_results.new.pool in
    let board = published driver.publisher in
    let more = published c.publish_pending-publisher.result.0 in
    from_kernel g.L.Language.spoken driver.entries c.publish_pending-publisher.result.1 driver.kernel k c.publish_pending-publisher.new.kernel board more given last (collected_by driver.pool) results c.requires pends
    (round_acts g.L.Language.spoken c.args.turns board more driver.kernel c.take_arrivals-taker.new.kernel c.give_jobs-job.new.kernel c.hand_results.new.kernel c.work_slice-work.new.kernel c.publish_pending-publisher.new.kernel
    given jobs last (collected_by driver.pool) (collected_by c.give_jobs-job.new.pool) results c.work_slice-work.result c.publish_pending-publisher.result.1
    c.take_arrivals-taker.ensures.acts c.give_jobs-job.ensures.acts c.give_jobs-job.ensures.pool.1 c.hand_results.ensures.acts
    (ap (λ (js : List Job). js ++ hand c.give_jobs-job.result.0) c.hand_results.ensures.pool.1) c.work_slice-work.ensures c.publish_pending-publisher.ensures.acts)

pub returns-clause-shown : goal.returns-clause-shown
returns-clause-shown g c ran =
    let all = c.answer_of.ensures ran in
    let shown = c.publish_pending-publisher.ensures.all all.2 in
    (shown.0, none_left c.work_slice-work.new.kernel c.publish_pending-publisher.new.kernel shown.1)

pub returns-clause-done : goal.returns-clause-done
returns-clause-done g c ran =
    let driver = c.args.driver in
    let given = offered_by driver.pool ++ hand driver.job in
    let jobs = offered_by c.give_jobs-job.new.pool ++ hand c.give_jobs-job.result.0 in
    let results = collected_by c.hand_results.new.pool in
    let board = published driver.publisher in
    let all = c.answer_of.ensures ran in
    let none = is_none c.take_arrivals-taker.result.1 c.is_none-taken.result c.is_none-taken.ensures all.0 in
    let shown = c.publish_pending-publisher.ensures.all all.2 in
    let worked = c.work_slice-work.ensures in
    record {
      arrival = none;
      inbox = round_emptied g.L.Language.spoken c.args.turns c.take_arrivals-taker.new.kernel c.give_jobs-job.new.kernel c.hand_results.new.kernel c.work_slice-work.new.kernel c.publish_pending-publisher.new.kernel c.work_slice-work.result (taker_view c.take_arrivals-taker.result.0)
          (subst (λ (o : Option Arrival). IfNone o (IsEmptied c.take_arrivals-taker.new.kernel.log (taker_view c.take_arrivals-taker.result.0))) none c.take_arrivals-taker.ensures.none)
          c.give_jobs-job.ensures.log c.hand_results.ensures.log worked c.publish_pending-publisher.ensures.log;
      given = round_given g.L.Language.spoken c.args.turns c.give_jobs-job.new.kernel c.hand_results.new.kernel c.work_slice-work.new.kernel c.publish_pending-publisher.new.kernel _ c.work_slice-work.result c.give_jobs-job.result.0 (jobs_view c.give_jobs-job.new.pool) (jobs_view c.hand_results.new.pool) (c.give_jobs-job.ensures.given all.1) c.hand_results.ensures.given c.hand_results.ensures.jobs worked shown.1;
      results = c.hand_results.ensures.results;
      entries = shown.0;
      pending = none_left c.work_slice-work.new.kernel c.publish_pending-publisher.new.kernel shown.1;
      worked = λ k pends. (
        driven c.hand_results.new.kernel board jobs results,
        c.work_slice-work.new.kernel,
        subst (λ k. Leads g.L.Language.spoken (driven k board given (collected_by driver.pool)) (driven c.hand_results.new.kernel board jobs results)) (none_pends driver.entries k driver.kernel c.requires pends)
            (round_handed g.L.Language.spoken board driver.kernel c.take_arrivals-taker.new.kernel c.give_jobs-job.new.kernel c.hand_results.new.kernel given jobs (collected_by driver.pool) (collected_by c.give_jobs-job.new.pool) results
            c.take_arrivals-taker.ensures.acts c.give_jobs-job.ensures.acts c.give_jobs-job.ensures.pool.1 c.hand_results.ensures.acts),
        subst (λ (answer : Work). Works g.L.Language.spoken c.args.turns c.hand_results.new.kernel answer c.work_slice-work.new.kernel) (sym all.3) worked,
        shown.1,
      );
    }
