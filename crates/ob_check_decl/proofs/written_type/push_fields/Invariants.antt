use Rattle.std.proofs.Common.{◌≡◌, ◌++◌, take, map}
use Rattle.ob_check_decl.specs.WrittenTypes as spec
use Rattle.ob_check_decl.proofs.written_type.push_fields.Given as goal

abbrev pub invariant-loop-name : goal.invariant-loop-name
invariant-loop-name l = l.so_far ≡ l.fn.first ++ map (spec.field_of l.of) (take l.name-index l.names)
