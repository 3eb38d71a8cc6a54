use Rattle.std.proofs.Common.{◌≡◌, ◌++◌, take}
use Rattle.ob_check_decl.specs.WrittenTypes as spec
use Rattle.ob_check_decl.proofs.written_type.push_names.Given as goal

abbrev pub invariant-loop-field : goal.invariant-loop-field
invariant-loop-field l = l.so_far ≡ l.fn.first ++ spec.names_of (take l.field-index l.fields)
