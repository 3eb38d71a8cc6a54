use Rattle.std.proofs.Common.{◌≡◌, ◌++◌, drop}
use Rattle.ob_check_kinds.specs.Shapes as spec
use Rattle.ob_check_kinds.proofs.shapes.parameters_of.Given as goal

abbrev pub invariant-loop-formal : goal.invariant-loop-formal
invariant-loop-formal l = l.parameters ++ spec.parameters_of (drop l.formal-index l.formals) ≡ spec.parameters_of l.formals
