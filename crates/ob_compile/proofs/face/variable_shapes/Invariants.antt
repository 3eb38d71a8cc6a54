use Rattle.std.proofs.Common.{◌≡◌, ◌++◌, drop}
use Rattle.ob_check_laws.specs.Fitting as spec
use Rattle.ob_compile.proofs.face.variable_shapes.Given as goal

abbrev pub invariant-loop-exported : goal.invariant-loop-exported
invariant-loop-exported l = l.shapes ++ spec.variable_shapes (drop l.exported-index l.exports) ≡ spec.variable_shapes l.exports
