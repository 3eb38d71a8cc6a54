use Rattle.std.proofs.Common.{◌≡◌, length}
use Rattle.js_kernels.specs.Hosting.{states_of}
use Rattle.js_kernels.proofs.kernels.Kernels.follow.Given as goal

abbrev pub invariant-loop-place : goal.invariant-loop-place
invariant-loop-place g l = record {
  same : states_of l.self-inside.hosted.items ≡ l.fn.self;
  count : length l.self-inside.hosted.items ≡ l.place-end;
}
