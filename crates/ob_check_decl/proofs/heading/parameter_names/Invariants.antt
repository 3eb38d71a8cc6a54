use Rattle.std.proofs.Common.{◌≡◌, [], drop}
use Rattle.ob_check_scope.specs.Rule.{answer, through}
use Rattle.ob_check_decl.specs.Headings as spec
use Rattle.ob_check_decl.proofs.heading.parameter_names.Given as goal

abbrev pub invariant-loop-name : goal.invariant-loop-name
invariant-loop-name l = answer (through (spec.parameter_name l.block) [] l.list) ≡ answer (through (spec.parameter_name l.block) l.so_far (drop l.name-index l.list))
