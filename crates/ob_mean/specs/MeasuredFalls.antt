-- The parts of a shape are smaller than it.
use Rattle.std.specs.Prelude.{◌≤◌}
use Rattle.std.proofs.Common.{arith}
use Rattle.ob_mean.specs.declared.measured.ShapeForm.{ShapeForm}
use Rattle.ob_mean.specs.declared.measured.ShapeForm.TheVariants as form
use Rattle.ob_mean.specs.declared.measured.Shape.TheDeep.{deep-ShapeForm}
use Rattle.ob_mean.specs.Measured.{shape_of, size_in, size_array, size_record, most_fields}

pub parts_fall : (f : ShapeForm) → deep-ShapeForm f ≤ size_in (shape_of f)
parts_fall form.Basic = omega arith
parts_fall (form.Array n e) = omega (arith, size_array n e)
parts_fall (form.Record f) = omega (arith, size_record f.shapes, most_fields f.shapes)
