use Rattle.std.proofs.Common.{◌≡◌, drop}
use Rattle.ob_check_scope.specs.Rule.{answer, through}
use Rattle.ob_check_decl.specs.Declarations as spec
use Rattle.ob_check_decl.proofs.declaration.imports.Given as goal

abbrev pub invariant-loop-one : goal.invariant-loop-one
invariant-loop-one l = answer (through (spec.import_rule l.modules) l.fn.first l.list) ≡ answer (through (spec.import_rule l.modules) l.so_far (drop l.one-index l.list))
