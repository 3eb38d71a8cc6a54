use Rattle.std.proofs.Common.{◌≡◌, ℕ, List, take}
use Rattle.std.specs.Prelude.{◌||◌}
use Rattle.std.specs.HashSet.{contains_text}
use Rattle.js_names.specs.Untitled.{has_session}
use Rattle.js_names.proofs.untitled.take_sessions.Given as goal

abbrev pub invariant-loop-kernel : goal.invariant-loop-kernel
invariant-loop-kernel l =
    (name : List ℕ) → contains_text l.taken name ≡ (contains_text l.fn.taken name || has_session l.folder (take l.kernel-index l.kernels) name)
