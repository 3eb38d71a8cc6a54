use Rattle.std.proofs.Common.{◌≡◌}
use Rattle.js_kernels.proofs.kernels.ends.take_all_back.Given as goal

abbrev pub invariant-loop : goal.invariant-loop
invariant-loop g l = l.home.zero ≡ l.fn.home.zero
