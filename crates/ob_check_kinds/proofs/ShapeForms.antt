-- What the shape of a type is for each form of type.
use Rattle.std.proofs.Common.{◌≡◌, ℕ, ◌∷◌, refl, ap, sym, ◌∙◌}
use Rattle.ob_types.specs.declared.structure.ObType.{ObType}
use Rattle.ob_types.specs.declared.structure.ObType.TheBlock.{Row_of-Field, end_of-Field, more_of-Field, items-the_row-Field, items_shown-the_row-Field-1}
use Rattle.ob_types.specs.declared.structure.ObType.TheVariants.{Array, Open, Record}
use Rattle.ob_types.specs.declared.structure.RecordType.{RecordType, RecordType', out-RecordType}
use Rattle.ob_mean.specs.declared.module.Parameter.TheVariants as parameter
use Rattle.ob_mean.specs.declared.shape.Shape.TheVariants as shape
use Rattle.ob_types.specs.declared.exports.FormalKind.{FormalKind}
use Rattle.ob_check_kinds.specs.Shapes.{shape_of, shapes_of, shapes_in, parameter_of}

pub shape_array : (n : ℕ) (e : ObType) → shape_of (Array n e) ≡ shape.Array n (shape_of e)
unfolding Rattle.ob_types.specs.declared.structure.ObType.TheBlock.hidden-the_row-ObType-0 denote.Hole.Carrier.hidden
shape_array n e = refl

pub shape_open : (e : ObType) → shape_of (Open e) ≡ shape.Array 1 (shape_of e)
unfolding Rattle.ob_types.specs.declared.structure.ObType.TheBlock.hidden-the_row-ObType-0 denote.Hole.Carrier.hidden
shape_open e = refl

row_shapes : (k : _) (row : Row_of-Field k) → shapes_of row ≡ shapes_in (items-the_row-Field k row)
row_shapes k end_of-Field = refl
row_shapes k (more_of-Field name exported of rest) = ap (λ ss. shape_of of ∷ ss) (row_shapes _ rest)

pub shape_record : (r : RecordType) → shape_of (Record r) ≡ shape.Record (shapes_in (out-RecordType r).fields)
unfolding out-RecordType denote.Hole.Carrier.out
shape_record (RecordType' name k fields) = ap shape.Record (row_shapes _ fields ∙ ap shapes_in (sym (items_shown-the_row-Field-1 k fields)))

pub parameter_open : (k : FormalKind) (e : ObType) → parameter_of k (Open e) ≡ parameter.Open (shape_of e)
unfolding Rattle.ob_types.specs.declared.structure.ObType.TheBlock.hidden-the_row-ObType-0 denote.Hole.Carrier.hidden
parameter_open k e = refl
