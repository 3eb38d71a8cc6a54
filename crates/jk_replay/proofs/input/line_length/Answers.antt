use Rattle.std.proofs.Common.{rules, ◌≢◌, ◌+◌, ap, get_or}
use Rattle.jk_replay.proofs.LineLemmas.{line_more}
use Rattle.jk_replay.proofs.input.line_length.Goals as goal

pub loop-byte-preserved : goal.loop-byte-preserved
loop-byte-preserved c =
    let other : get_or c.args.bytes.now c.loop-byte.byte-index 0 ≢ 10 = search rules in
    (ap (λ n. n + 1) c.loop-byte.invariant.0, line_more c.args.bytes.now c.loop-byte.byte-index 0 c.loop-byte-test.true c.loop-byte.invariant.1 other)
