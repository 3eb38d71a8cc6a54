use Rattle.std.proofs.Common.{◌≡◌, ℕ, ◌<◌, Some}
use Rattle.std.specs.Prelude.{slice_get}
use Rattle.ob_code.specs.Kinds.{listed, Keeps}
use Rattle.ob_code.specs.declared.instr.Line.{Line}
use Rattle.ob_verify.proofs.measured.lines_keep.Given as goal

abbrev pub invariant-loop-place : goal.invariant-loop-place
invariant-loop-place l = (k : ℕ) (x : Line) → k < l.place → slice_get l.procedure.lines.items k ≡ Some x → Keeps l.code l.procedure (listed l.rows) k (listed l.rows k) x.instr
