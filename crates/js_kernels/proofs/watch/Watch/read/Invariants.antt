use Rattle.std.proofs.Common.{◌≡◌}
use Rattle.jk_board.specs.Ends.{board_of}
use Rattle.js_kernels.specs.Watching.{ReadsOn}
use Rattle.js_kernels.proofs.watch.Watch.read.Given as goal

abbrev pub invariant-loop : goal.invariant-loop
invariant-loop g l = record {
  reads : ReadsOn l.fn.self l.watch;
  board : board_of l.watch.follower ≡ board_of l.fn.self.follower;
}
