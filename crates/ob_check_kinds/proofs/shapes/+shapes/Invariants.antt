use Rattle.std.proofs.Common.{◌≡◌, ◌++◌, drop}
use Rattle.ob_check_kinds.specs.Shapes as spec
use Rattle.ob_check_kinds.proofs.shapes.+shapes.Given as goal

abbrev pub invariant-shapes_in-loop-field : goal.invariant-shapes_in-loop-field
invariant-shapes_in-loop-field l = l.shapes ++ spec.shapes_in (drop l.field-index l.fields) ≡ spec.shapes_in l.fields
