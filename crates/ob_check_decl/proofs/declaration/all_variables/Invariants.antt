use Rattle.std.proofs.Common.{◌≡◌, drop}
use Rattle.ob_check_scope.specs.Rule.{answer, through}
use Rattle.ob_check_decl.specs.Declarations as spec
use Rattle.ob_check_decl.proofs.declaration.all_variables.Given as goal

abbrev pub invariant-loop-x : goal.invariant-loop-x
invariant-loop-x l = answer (through (spec.variables_rule l.modules l.nesting) l.fn.first l.lists) ≡ answer (through (spec.variables_rule l.modules l.nesting) l.so_far (drop l.x-index l.lists))
