use Rattle.std.proofs.Common.{◌≡◌, ◌++◌, [], drop}
use Rattle.ob_types.specs.Spelling as spec
use Rattle.ob_types.proofs.spelling.put_fields.Given as goal

abbrev pub invariant-loop-field : goal.invariant-loop-field
invariant-loop-field l = l.output.items ++ spec.fields_spelled l.previous (drop l.field-index l.fields) ≡ l.initial.output.items ++ spec.fields_spelled [] l.fields
