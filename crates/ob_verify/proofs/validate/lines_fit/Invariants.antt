use Rattle.std.proofs.Common.{◌≡◌, ℕ, ◌<◌, Some}
use Rattle.std.specs.Prelude.{slice_get}
use Rattle.ob_code.specs.Valid.{Fits}
use Rattle.ob_code.specs.declared.instr.Line.{Line}
use Rattle.ob_verify.proofs.validate.lines_fit.Given as goal

abbrev pub invariant-loop-place : goal.invariant-loop-place
invariant-loop-place l = (k : ℕ) (x : Line) → k < l.place → slice_get l.procedure.lines.items k ≡ Some x → Fits l.code l.procedure l.procedure.lines.items k x.operands x.names x.instr
