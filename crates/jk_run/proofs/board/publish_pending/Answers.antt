use Rattle.jk_log.specs.Render.{render}
use Rattle.jk_log.specs.Pending.{joined}
use Rattle.jk_board.specs.Ends.{published}
use Rattle.jk_run.proofs.Rounds.{taken_out, after_publish, publishes}
use Rattle.jk_run.proofs.board.publish_pending.Goals as goal

pub returns-in-Ok-clause-shown : goal.returns-in-Ok-clause-shown
returns-in-Ok-clause-shown g c =
    after_publish (published c.args.publisher) (published c.publish-publisher.result.0) c.in-Ok.entries c.publish-publisher.result.1 (joined c.take_pending.new.kernel.pending) (render c.take_pending.new.kernel.log)
    (taken_out (published c.args.publisher) c.args.kernel.now c.take_pending.new.kernel c.pending_marks-marks.result c.in-Ok.entries.items c.requires c.in-Ok.ensures.entries c.in-Ok.ensures.ok)
    c.publish-publisher.ensures.published

pub returns-in-Ok-clause-acts : goal.returns-in-Ok-clause-acts
returns-in-Ok-clause-acts g c =
    publishes g.L.Language.spoken c.args.kernel.now c.take_pending.new.kernel (published c.args.publisher) (published c.publish-publisher.result.0) c.in-Ok.entries c.publish-publisher.result.1 c.pending_marks-marks.result c.pending_marks-marks.ensures c.in-Ok.ensures.entries c.in-Ok.ensures.ok c.publish-publisher.ensures.published
