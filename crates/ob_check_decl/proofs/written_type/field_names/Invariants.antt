use Rattle.std.proofs.Common.{◌≡◌, drop}
use Rattle.ob_check_scope.specs.Rule.{answer, through}
use Rattle.ob_check_decl.specs.WrittenTypes as spec
use Rattle.ob_check_decl.proofs.written_type.field_names.Given as goal

abbrev pub invariant-loop-name : goal.invariant-loop-name
invariant-loop-name l = answer (through spec.field_name l.fn.first l.names) ≡ answer (through spec.field_name l.so_far (drop l.name-index l.names))
