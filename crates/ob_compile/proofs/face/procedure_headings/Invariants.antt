use Rattle.std.proofs.Common.{◌≡◌, ◌++◌, drop}
use Rattle.ob_check_laws.specs.Fitting as spec
use Rattle.ob_compile.proofs.face.procedure_headings.Given as goal

abbrev pub invariant-loop-exported : goal.invariant-loop-exported
invariant-loop-exported l = l.headings ++ spec.procedure_headings (drop l.exported-index l.exports) ≡ spec.procedure_headings l.exports
