use Rattle.std.proofs.Common.{◌≡◌, ◌++◌, drop, string_bytes}
use Rattle.ob_types.specs.InterfaceText as spec
use Rattle.ob_types.proofs.type_writing.+type_writing.Given as goal

abbrev pub invariant-put_fields-loop-field : goal.invariant-put_fields-loop-field
invariant-put_fields-loop-field l = string_bytes l.output ++ spec.all_fields_text (drop l.field-index l.fields) ≡ string_bytes l.initial.output ++ spec.all_fields_text l.fields
