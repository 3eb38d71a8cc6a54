-- The zero of an array, and of a record.
use Rattle.std.proofs.Common.{◌≡◌, ℕ, List, refl, ap, ◌∙◌}
use Rattle.ob_mean.specs.declared.shape.Shape.{Shape, Row_of-Shape, end_of-Shape, more_of-Shape, items-the_row-Shape, items_hidden-the_row-Shape-1}
use Rattle.ob_mean.specs.declared.shape.Shape.TheVariants.{Array, Record, Record'}
use Rattle.ob_mean.specs.Values.{Beside, row}
use Rattle.ob_mean.specs.Shapes.{zero_of, zeros, zeros_in, at_least_one}

pub array_zero : (n : ℕ) (element : Shape) → zero_of (Array n element) ≡ row n (zero_of element)
unfolding Rattle.ob_mean.specs.declared.shape.Shape.TheBlock.hidden-the_row-Shape-0 denote.Hole.Carrier.hidden
array_zero n element = refl

row_zeros : (k : _) (fields : Row_of-Shape k) → zeros_in fields ≡ zeros (items-the_row-Shape k fields)
row_zeros k end_of-Shape = refl
row_zeros k (more_of-Shape field rest) = ap (λ v. Beside (zero_of field) v) (row_zeros _ rest)

abbrev fields_in : Shape → (k : _) × Row_of-Shape k
fields_in (Record' k fields) = (_, fields)
fields_in _ = (_, end_of-Shape)

pub record_zero : (fields : List Shape) → zero_of (Record fields) ≡ at_least_one (zeros fields)
record_zero fields =
    ap at_least_one (row_zeros (fields_in (Record fields)).0 (fields_in (Record fields)).1 ∙ ap zeros (items_hidden-the_row-Shape-1 fields))
