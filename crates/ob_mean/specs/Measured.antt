-- Shapes as the program has them: by their form, and how many cells they take.
use Rattle.std.specs.Prelude.{◌≡◌, ℕ, suc, ◌+◌, ◌≤◌, ⊤, List, [], ◌∷◌}
use Rattle.std.proofs.Common.{arith, ap, ◌∙◌, refl}
use Rattle.ob_mean.specs.declared.shape.Shape.{Shape, Row_of-Shape, end_of-Shape, more_of-Shape, items-the_row-Shape, items_hidden-the_row-Shape-1}
use Rattle.ob_mean.specs.declared.shape.Shape.TheVariants.{Basic, Array, Record, Array', Record'}
use Rattle.ob_mean.specs.declared.measured.ShapeForm.{ShapeForm}
use Rattle.ob_mean.specs.declared.measured.ShapeForm.TheVariants as form
use Rattle.ob_mean.specs.Values.{size}
use Rattle.ob_mean.specs.Shapes.{zero_of}
use denote.Param.Weighed.{most}

-- the shape of a form
abbrev pub shape_of : ShapeForm → Shape
shape_of form.Basic = Basic
shape_of (form.Array n e) = Array n e
shape_of (form.Record f) = Record f.shapes

-- how many cells stand before each field, after so many, and at last how many there are
abbrev pub offsets : ℕ → List Shape → List ℕ
offsets n [] = n ∷ []
offsets n (s ∷ ss) = n ∷ offsets (n + size (zero_of s)) ss

abbrev pub AreOffsets : ShapeForm → Type 0
AreOffsets form.Basic = ⊤
AreOffsets (form.Array n e) = ⊤
AreOffsets (form.Record f) = f.offsets.items ≡ offsets 0 f.shapes

-- a shape of this form takes so many cells
abbrev pub IsMeasured : ShapeForm → ℕ → Type 0
IsMeasured form cells = (cells ≡ size (zero_of (shape_of form))) × AreOffsets form

-- ---- how large a shape is, written out: more than its parts

abbrev mutual
  pub size_in : Shape → ℕ
  size_in Basic = 1
  size_in (Array' n p (more_of-Shape element end_of-Shape)) = suc (size_in element)
  size_in (Record' k fields) = suc (row_size fields)

  pub row_size : {k : _} → Row_of-Shape k → ℕ
  row_size end_of-Shape = 0
  row_size (more_of-Shape field rest) = suc (size_in field) + row_size rest

-- the same of fields
abbrev pub sizes_in : List Shape → ℕ
sizes_in [] = 0
sizes_in (s ∷ ss) = suc (size_in s) + sizes_in ss

pub size_array : (n : ℕ) (e : Shape) → size_in (Array n e) ≡ suc (size_in e)
unfolding Rattle.ob_mean.specs.declared.shape.Shape.TheBlock.hidden-the_row-Shape-0 denote.Hole.Carrier.hidden
size_array n e = refl

row_sizes : (k : _) (row : Row_of-Shape k) → row_size row ≡ sizes_in (items-the_row-Shape k row)
row_sizes k end_of-Shape = refl
row_sizes k (more_of-Shape field rest) = ap (λ n. suc (size_in field) + n) (row_sizes _ rest)

abbrev fields_in : Shape → (k : _) × Row_of-Shape k
fields_in (Record' k fields) = (_, fields)
fields_in _ = (_, end_of-Shape)

pub size_record : (fields : List Shape) → size_in (Record fields) ≡ suc (sizes_in fields)
size_record fields =
    ap suc (row_sizes (fields_in (Record fields)).0 (fields_in (Record fields)).1 ∙ ap sizes_in (items_hidden-the_row-Shape-1 fields))

pub most_fields : (fs : List Shape) → most (λ f. size_in f + 1) fs ≤ suc (sizes_in fs)
most_fields [] = omega arith
most_fields (f ∷ fs) = omega (arith, most_fields fs)
