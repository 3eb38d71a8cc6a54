use Rattle.js_kernels.specs.Readings.{HaveGone}
use Rattle.js_kernels.proofs.kernels.Kernels.drop_left.Given as goal

abbrev pub invariant-loop-place : goal.invariant-loop-place
invariant-loop-place g l = HaveGone l.fn.self l.self
