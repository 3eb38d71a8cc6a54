use Rattle.std.proofs.Common.{◌≡◌, ℕ, ◌<◌, ◌≤◌, Some}
use Rattle.std.specs.Prelude.{slice_get}
use Rattle.ob_mean.specs.declared.kind.TypeName.{TypeName}
use Rattle.ob_verify.proofs.measured.are_at_most.Given as goal

abbrev pub invariant-loop-place : goal.invariant-loop-place
invariant-loop-place l = (k : ℕ) (x : TypeName) → k < l.place → slice_get l.types k ≡ Some x → x.cells ≤ l.most
