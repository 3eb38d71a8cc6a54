use Rattle.std.proofs.Common.{◌∙◌}
use Rattle.js_kernels.proofs.Watching.{reads_more}
use Rattle.js_kernels.proofs.watch.Watch.read.Goals as goal

pub loop-preserved : goal.loop-preserved
loop-preserved g c = record {
  reads = reads_more c.args.self c.loop.watch c.read_some-same.result.0 c.loop.invariant.reads c.read_some-same.ensures.reads;
  board = c.read_some-same.ensures.board ∙ c.loop.invariant.board;
}
