use Rattle.std.proofs.Common.{ℕ, ◌<◌}
use Rattle.ob_code.specs.Kinds.{CoversAt}
use Rattle.ob_verify.proofs.kinds.cover_each.Given as goal

abbrev pub invariant-loop-place : goal.invariant-loop-place
invariant-loop-place l = (i : ℕ) → i < l.place → CoversAt l.expected l.found i
