use Rattle.std.proofs.Common.{◌≡◌, drop}
use Rattle.ob_check_scope.specs.Rule.{answer, through}
use Rattle.ob_check_decl.specs.Headings as spec
use Rattle.ob_check_decl.proofs.heading.all_parameters.Given as goal

abbrev pub invariant-loop-name : goal.invariant-loop-name
invariant-loop-name l = answer (through (spec.parameter_rule l.by_reference l.of) l.fn.first l.names) ≡ answer (through (spec.parameter_rule l.by_reference l.of) l.so_far (drop l.name-index l.names))
