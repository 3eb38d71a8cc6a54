use Rattle.std.proofs.Common.{◌≡◌, ℕ, ◌<◌, Some}
use Rattle.std.specs.Prelude.{slice_get}
use Rattle.ob_code.specs.Kinds.{HasKinds}
use Rattle.ob_code.specs.declared.instr.Procedure.{Procedure}
use Rattle.ob_verify.proofs.validate.have_kinds.Given as goal

abbrev pub invariant-loop-place : goal.invariant-loop-place
invariant-loop-place l = (k : ℕ) (f : Procedure) → k < l.place → slice_get l.code.procedures.items k ≡ Some f → HasKinds l.code f
