use Rattle.jk_replay.proofs.WritingLemmas.{rest_more}
use Rattle.jk_replay.proofs.replay.write_bytes.Goals as goal

pub rest-preserved : goal.rest-preserved
rest-preserved g c =
    rest_more _ _ _ c.args.bytes.now c.rest.invariant.0 c.rest.rest.now c.in_ok-count.count c.rest.invariant.1 c.rest.invariant.2
    c.in_ok-count.ensures.bytes
