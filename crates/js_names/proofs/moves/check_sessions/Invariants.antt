use Rattle.std.proofs.Common.{◌≡◌, drop}
use Rattle.js_names.specs.Moves.{sessions_checked}
use Rattle.js_names.proofs.moves.check_sessions.Given as goal

abbrev pub invariant-loop-kernel : goal.invariant-loop-kernel
invariant-loop-kernel l =
    sessions_checked l.from l.to l.kernels (drop l.kernel-index l.kernels) ≡ sessions_checked l.from l.to l.kernels l.kernels
