use Rattle.jk_log.specs.Render.{render}
use Rattle.jk_log.specs.Pending.{joined}
use Rattle.jk_board.specs.Ends.{published}
use Rattle.jk_queues.specs.Pool.{offered_by, collected_by}
use Rattle.std.proofs.Common.{◌++◌, ◌∙◌}
use Rattle.jk_run.specs.Hand.{hand}
use Rattle.jk_run.proofs.Rounds.{after_hand, hand_published}
use Rattle.jk_run.proofs.round.show_hand.Goals as goal

pub invariant_of-result : goal.invariant_of-result
invariant_of-result g c = record {
  took = c.args.driver.took;
  own = c.publish_hand-publisher.ensures.own ∙ c.args.driver.own;
  shown = after_hand (published c.args.driver.publisher) (published c.publish_hand-publisher.result.0) c.args.driver.entries c.publish_hand-publisher.result.1 (joined c.args.driver.kernel.pending) (render c.args.driver.kernel.log) c.args.driver.shown c.publish_hand-publisher.ensures.published;
}

pub returns-clause-acts : goal.returns-clause-acts
returns-clause-acts g c k pends =
    let driver = c.args.driver in
    let published_hand = hand_published g.L.Language.spoken driver.entries c.publish_hand-publisher.result.1 k driver.kernel (published driver.publisher) (published c.publish_hand-publisher.result.0) pends c.publish_hand-publisher.ensures.published in
    (published_hand.0, published_hand.1, published_hand.2 (offered_by driver.pool ++ hand driver.job) (collected_by driver.pool))
