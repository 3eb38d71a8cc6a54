use Rattle.std.proofs.Common.{◌≡◌, [], drop}
use Rattle.ob_check_scope.specs.Rule.{answer, through}
use Rattle.ob_check_decl.specs.Declarations as spec
use Rattle.ob_check_decl.proofs.declaration.variable_names.Given as goal

abbrev pub invariant-loop-x : goal.invariant-loop-x
invariant-loop-x l = answer (through (spec.variable_name l.block) [] l.list) ≡ answer (through (spec.variable_name l.block) l.so_far (drop l.x-index l.list))
