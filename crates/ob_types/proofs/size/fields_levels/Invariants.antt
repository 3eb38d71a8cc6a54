use Rattle.std.proofs.Common.{◌≡◌, ◌≤◌, min, max, drop}
use Rattle.ob_types.specs.Types as spec
use Rattle.ob_types.proofs.size.fields_levels.Given as goal

abbrev pub invariant-loop-field : goal.invariant-loop-field
invariant-loop-field l =
    (l.most ≤ 4294967295) × (min (spec.levels_in l.fields) 4294967295 ≡ min (max l.most (spec.levels_in (drop l.field-index l.fields))) 4294967295)
