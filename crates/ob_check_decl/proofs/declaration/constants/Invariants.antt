use Rattle.std.proofs.Common.{◌≡◌, drop}
use Rattle.ob_check_scope.specs.Rule.{answer, through}
use Rattle.ob_check_decl.specs.Declarations as spec
use Rattle.ob_check_decl.proofs.declaration.constants.Given as goal

abbrev pub invariant-loop-d : goal.invariant-loop-d
invariant-loop-d l = answer (through (spec.constant_rule l.modules l.nesting) l.fn.first l.list) ≡ answer (through (spec.constant_rule l.modules l.nesting) l.so_far (drop l.d-index l.list))
