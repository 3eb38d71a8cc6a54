use Rattle.std.proofs.Common.{◌≡◌, ℕ, ◌<◌, Some, length}
use Rattle.std.specs.Prelude.{slice_get}
use Rattle.ob_verify.proofs.validate.exports_fit.Given as goal

abbrev pub invariant-loop-number : goal.invariant-loop-number
invariant-loop-number l = (k p : ℕ) → k < l.number-index → slice_get l.code.exported.items k ≡ Some p → p < length l.code.procedures.items
