use Rattle.std.proofs.Common.{◌≡◌, drop}
use Rattle.ob_check_scope.specs.Rule.{answer, through}
use Rattle.ob_check_decl.specs.Headings as spec
use Rattle.ob_check_decl.proofs.heading.sections.Given as goal

abbrev pub invariant-loop-x : goal.invariant-loop-x
invariant-loop-x l = answer (through (spec.section_rule l.site.imports.now l.site.levels l.site.scope.now) spec.no_parameters l.list) ≡ answer (through (spec.section_rule l.site.imports.now l.site.levels l.site.scope.now) l.so_far (drop l.x-index l.list))
