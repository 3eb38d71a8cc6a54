use Rattle.std.proofs.Common.{◌≡◌, drop}
use Rattle.ob_types.specs.Declarable as spec
use Rattle.ob_types.proofs.declarable.are_plain.Given as goal

abbrev pub invariant-loop-field : goal.invariant-loop-field
invariant-loop-field l = spec.plain_fields l.fields ≡ spec.plain_fields (drop l.field-index l.fields)
