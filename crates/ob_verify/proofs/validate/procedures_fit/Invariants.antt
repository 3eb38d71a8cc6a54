use Rattle.std.proofs.Common.{◌≡◌, ℕ, ◌<◌, Some}
use Rattle.std.specs.Prelude.{slice_get}
use Rattle.ob_code.specs.Valid.{ProcedureFits}
use Rattle.ob_code.specs.declared.instr.Procedure.{Procedure}
use Rattle.ob_verify.proofs.validate.procedures_fit.Given as goal

abbrev pub invariant-loop-procedure : goal.invariant-loop-procedure
invariant-loop-procedure l = (k : ℕ) (f : Procedure) → k < l.procedure-index → slice_get l.code.procedures.items k ≡ Some f → ProcedureFits l.code f
