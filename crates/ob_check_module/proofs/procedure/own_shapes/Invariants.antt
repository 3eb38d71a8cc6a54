use Rattle.std.proofs.Common.{◌≡◌, ◌++◌, drop}
use Rattle.ob_check_module.specs.Procedures as spec
use Rattle.ob_check_module.proofs.procedure.own_shapes.Given as goal

abbrev pub invariant-loop-d : goal.invariant-loop-d
invariant-loop-d l = l.so_far ++ spec.own_shapes l.parameters (drop l.d-index l.declared) ≡ spec.own_shapes l.parameters l.declared
