use Rattle.std.proofs.Common.{◌++◌, ◌∙◌, ap, sym, subst}
use Rattle.crossbeam_queue.specs.Fifo.{Held}
use Rattle.jk_log.specs.declared.job.Job.{Job}
use Rattle.jk_board.specs.Ends.{published}
use Rattle.jk_queues.specs.declared.line.Hand.{Hand}
use Rattle.jk_queues.specs.Line.{StandsTaken}
use Rattle.jk_queues.specs.Pool.{offered_by, collected_by}
use Rattle.jk_run.specs.Driver.{HasGiven, state_of}
use Rattle.jk_run.specs.Hand.{hand}
use Rattle.jk_run.proofs.Acting.{leads_as}
use Rattle.jk_run.proofs.Rounds.{driven_none, driven_on, ends_none, ends_on, round_on}
use Rattle.jk_run.proofs.running.drive.Goals as goal

pub loop-init : goal.loop-init
loop-init g c = record {
  acts = driven_none g.L.Language.spoken c.args.driver;
  same = ends_none c.args.driver;
}

pub loop-preserved : goal.loop-preserved
loop-preserved g c = record {
  acts = driven_on g.L.Language.spoken c.args.driver c.loop.driver c.round-next.result.0 c.loop.invariant.acts c.round-next.ensures.acts;
  same = ends_on c.args.driver c.loop.driver c.round-next.result.0 c.loop.invariant.same c.round-next.ensures.same;
}

pub returns-then-ended-clause-acts : goal.returns-then-ended-clause-acts
returns-then-ended-clause-acts g c k pends =
    let next = c.round-next.result.0 in
    let one = driven_on g.L.Language.spoken c.args.driver c.loop.driver next c.loop.invariant.acts c.round-next.ensures.acts k pends in
    let stopped = c.stop.new.self in (
      one.0,
      one.1,
      leads_as g.L.Language.spoken (state_of k c.args.driver) one.0 (published next.publisher) (offered_by next.pool ++ hand next.job) (offered_by stopped ++ hand next.job) (collected_by next.pool) (collected_by stopped)
          (ap (λ (v : Hand Job). v.put ++ hand next.job) c.stop.ensures.views.0)
          (ap (λ v. v.got) c.stop.ensures.views.1)
          one.2,
    )

pub returns-then-ended-clause-same : goal.returns-then-ended-clause-same
returns-then-ended-clause-same g c =
    let ends = ends_on c.args.driver c.loop.driver c.round-next.result.0 c.loop.invariant.same c.round-next.ensures.same in
    let stopped = c.stop.ensures.same in
    record {
      inbox = ends.inbox;
      pool = (stopped.0 ∙ ends.pool.0, stopped.1 ∙ ends.pool.1, stopped.2 ∙ ends.pool.2);
    }

pub returns-then-ended-clause-last : goal.returns-then-ended-clause-last
returns-then-ended-clause-last g c =
    let next = c.round-next.result.0 in
    let turns = c.loop.pace.turns in
    let answer = c.round-next.result.1 in
    let done = round_on g.L.Language.spoken c.args.driver c.loop.driver next turns answer c.loop.invariant.acts c.round-next.ensures.done (c.found_memory.ensures c.if-found_memory.true) in (
      turns,
      answer,
      record {
        arrival = done.arrival;
        inbox = done.inbox;
        given = subst (λ (v : Hand Job). HasGiven next.job v next.kernel) (sym c.stop.ensures.views.0) done.given;
        results = subst (λ v. Held 0 (StandsTaken v)) (sym c.stop.ensures.views.1) done.results;
        entries = done.entries;
        pending = done.pending;
        worked = done.worked;
      },
    )

pub returns-then-ended-clause-shown : goal.returns-then-ended-clause-shown
returns-then-ended-clause-shown g c = c.round-next.ensures.shown (c.found_memory.ensures c.if-found_memory.true)
