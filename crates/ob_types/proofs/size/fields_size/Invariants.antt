use Rattle.std.proofs.Common.{◌≡◌, ◌≤◌, ◌+◌, min, drop}
use Rattle.ob_types.specs.Types as spec
use Rattle.ob_types.proofs.size.fields_size.Given as goal

abbrev pub invariant-loop-field : goal.invariant-loop-field
invariant-loop-field l =
    (l.size ≤ 4294967295) × (min (spec.cells_in l.fields) 4294967295 ≡ min (l.size + spec.cells_in (drop l.field-index l.fields)) 4294967295)
