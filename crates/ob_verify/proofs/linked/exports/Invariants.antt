use Rattle.std.proofs.Common.{◌≡◌, ℕ, ◌<◌, Some}
use Rattle.std.specs.Prelude.{slice_get}
use Rattle.ob_code.specs.Linked.{Exports}
use Rattle.ob_code.specs.declared.instr.Entry.{Entry}
use Rattle.ob_verify.proofs.linked.exports.Given as goal

abbrev pub invariant-loop-place : goal.invariant-loop-place
invariant-loop-place l = (k : ℕ) (entry : Entry) → k < l.place → slice_get l.known.exported.items k ≡ Some entry → Exports l.imported k entry
