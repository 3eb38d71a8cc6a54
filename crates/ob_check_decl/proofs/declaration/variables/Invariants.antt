use Rattle.std.proofs.Common.{◌≡◌, drop}
use Rattle.ob_check_scope.specs.Rule.{answer, through}
use Rattle.ob_check_decl.specs.Declarations as spec
use Rattle.ob_check_decl.proofs.declaration.variables.Given as goal

abbrev pub invariant-loop-name : goal.invariant-loop-name
invariant-loop-name l = answer (through (spec.variable_rule l.of) l.fn.first l.names) ≡ answer (through (spec.variable_rule l.of) l.so_far (drop l.name-index l.names))
