use Rattle.std.proofs.Common.{◌≡◌, [], drop}
use Rattle.ob_check_scope.specs.Rule.{answer, through}
use Rattle.ob_check_decl.specs.WrittenTypes as spec
use Rattle.ob_check_decl.proofs.written_type.lengths_of.Given as goal

abbrev pub invariant-loop-e : goal.invariant-loop-e
invariant-loop-e l = answer (through (spec.next_length (spec.inner_constant l.site.imports.now l.site.scope.now l.site.levels)) [] l.list) ≡ answer (through (spec.next_length (spec.inner_constant l.site.imports.now l.site.scope.now l.site.levels)) l.so_far (drop l.e-index l.list))
