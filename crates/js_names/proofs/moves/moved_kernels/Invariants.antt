use Rattle.std.proofs.Common.{◌≡◌, map, take}
use Rattle.js_names.specs.Moves.{moved_kernel}
use Rattle.js_names.proofs.moves.moved_kernels.Given as goal

abbrev pub invariant-loop-kernel : goal.invariant-loop-kernel
invariant-loop-kernel l = l.moved ≡ map (moved_kernel l.from l.to) (take l.kernel-index l.kernels)
