use Rattle.std.proofs.Common.{ℕ, ◌<◌}
use Rattle.ob_code.specs.Kinds.{SameAt}
use Rattle.ob_verify.proofs.kinds.each_same.Given as goal

abbrev pub invariant-loop-place : goal.invariant-loop-place
invariant-loop-place l = (i : ℕ) → i < l.place → SameAt l.one l.other i
