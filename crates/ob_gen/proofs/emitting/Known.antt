-- What tables say of names.
use Rattle.std.proofs.Common.{◌≡◌, ℕ, zero, suc, ◌+◌, ◌-◌, ◌*◌, ◌<◌, ◌≤◌, min, max, arith, length, get_or, List, [], ◌∷◌, map, refl, sym, ap, ◌∙◌, Some}
use Rattle.std.specs.Prelude.{slice_get}
use Rattle.ob_mean.specs.declared.face.Face.{Face}
use Rattle.ob_mean.specs.declared.module.Parameter.{Parameter}
use Rattle.ob_mean.specs.declared.shape.Shape.{Shape, Row_of-Shape, end_of-Shape, more_of-Shape, items-the_row-Shape, items_hidden-the_row-Shape-1}
use Rattle.ob_mean.specs.declared.shape.Shape.TheVariants.{Basic, Array, Record, Record'}
use Rattle.ob_mean.specs.Values.{Value, Cell, Named, Open, Nothing, Beside, row, size, before, item, count}
use Rattle.ob_mean.specs.Shapes.{zero_of, zeros, at_least_one}
use Rattle.ob_mean.specs.WellFormed.{Of, elements_in, own_object, value_object, shape_object, element_shape, field_shape, field_at}
use Rattle.ob_gen.specs.Code.{zero_in, extent_at, face_row, named_one, named_before}
use Rattle.ob_table.specs.Tables.{extent_in, row_sizes}
use Rattle.ob_gen.specs.Known.{face_sizes, object_seen}
use Rattle.ob_gen.specs.declared.known.Object.{Object as Seen}
use Rattle.ob_mean.proofs.Zeros.{array_zero, record_zero}
use Rattle.ob_mean.proofs.Cells.{array_size, array_before}

extent_from : (a : ℕ) (r : Value) (x : ℕ) → extent_in a (row_sizes r) x ≡ record { from = a + before r x; cells = size (item r x) }
extent_from a (Cell z) x = ap (λ k. record { from = k; cells = 0 }) (omega arith)
extent_from a (Named p u) x = ap (λ k. record { from = k; cells = 0 }) (omega arith)
extent_from a (Open p n) x = ap (λ k. record { from = k; cells = 0 }) (omega arith)
extent_from a Nothing x = ap (λ k. record { from = k; cells = 0 }) (omega arith)
extent_from a (Beside v rest) zero = ap (λ k. record { from = k; cells = size v }) (omega arith)
extent_from a (Beside v rest) (suc x) = extent_from (a + size v) rest x ∙ ap (λ k. record { from = k; cells = size (item rest x) }) (omega arith)

pub row_extent : (r : Value) (x : ℕ) → extent_in 0 (row_sizes r) x ≡ extent_at r x
row_extent r x = extent_from 0 r x ∙ ap (λ k. record { from = k; cells = size (item r x) }) (omega arith)

name_from : (a : ℕ) (ps : List Parameter) (x : ℕ) → (extent_in a (map named_one ps) x).from ≡ a + named_before ps x
name_from a [] x = omega arith
name_from a (p ∷ ps) zero = omega arith
name_from a (p ∷ ps) (suc x) = name_from (a + named_one p) ps x ∙ omega arith

pub name_before : (ps : List Parameter) (x : ℕ) → (extent_in 0 (map named_one ps) x).from ≡ named_before ps x
name_before ps x = name_from 0 ps x ∙ omega arith

pub face_extent : (faces : List Face) (i x : ℕ) (d : List ℕ) → i < length (map face_sizes faces) → extent_in 0 (get_or (map face_sizes faces) i d) x ≡ extent_at (face_row (slice_get faces i)) x
face_extent [] i x d lt = absurd (omega (arith, lt))
face_extent (f ∷ faces) zero x d lt = row_extent (zeros f.variables) x
face_extent (f ∷ faces) (suc i) x d lt = face_extent faces i x d (omega (arith, lt))

pub face_none : (faces : List Face) (i x : ℕ) → length (map face_sizes faces) ≤ i → extent_at (face_row (slice_get faces i)) x ≡ record { from = 0; cells = 0 }
face_none [] i x le = refl
face_none (f ∷ faces) zero x le = absurd (omega (arith, le))
face_none (f ∷ faces) (suc i) x le = face_none faces i x (omega (arith, le))

pub own_rest : (ps : List Parameter) (shapes : List Shape) (x : ℕ) → length ps ≤ x → own_object ps shapes x ≡ shape_object (slice_get shapes (x - length ps))
own_rest [] shapes x le = ap (λ k. shape_object (slice_get shapes k)) (omega arith)
own_rest (p ∷ ps) shapes zero le = absurd (omega (arith, le))
own_rest (p ∷ ps) shapes (suc x) le = own_rest ps shapes x (omega (arith, le)) ∙ ap (λ k. shape_object (slice_get shapes k)) (omega arith)

pub own_first : (ps : List Parameter) (shapes : List Shape) (x : ℕ) (d : Parameter) → x < length ps → own_object ps shapes x ≡ value_object (get_or ps x d)
own_first [] shapes x d lt = absurd (omega (arith, lt))
own_first (p ∷ ps) shapes zero d lt = refl
own_first (p ∷ ps) shapes (suc x) d lt = own_first ps shapes x d (omega (arith, lt))

-- ---- shapes

pub array_element : (n : ℕ) (element : Shape) → element_shape (Array n element) ≡ Some element
unfolding Rattle.ob_mean.specs.declared.shape.Shape.TheBlock.hidden-the_row-Shape-0 denote.Hole.Carrier.hidden
array_element n element = refl

row_field : (k : _) (fields : Row_of-Shape k) (i : ℕ) → field_at fields i ≡ shape_object (slice_get (items-the_row-Shape k fields) i)
row_field k end_of-Shape i = refl
row_field k (more_of-Shape field rest) zero = refl
row_field k (more_of-Shape field rest) (suc i) = row_field _ rest i

abbrev fields_in : Shape → (k : _) × Row_of-Shape k
fields_in (Record' k fields) = (_, fields)
fields_in _ = (_, end_of-Shape)

pub record_field : (fields : List Shape) (i : ℕ) → field_shape (Record fields) i ≡ shape_object (slice_get fields i)
record_field fields i =
    row_field (fields_in (Record fields)).0 (fields_in (Record fields)).1 i ∙ ap (λ l. shape_object (slice_get l i)) (items_hidden-the_row-Shape-1 fields)

count_row : (n : ℕ) (v : Value) → count (row n v) ≡ n
count_row zero v = refl
count_row (suc n) v = ap (λ k. suc k) (count_row n v)

pub array_count : (n : ℕ) (element : Shape) → count (zero_of (Array n element)) ≡ n
array_count n element = ap count (array_zero n element) ∙ count_row n (zero_of element)

count_zeros : (fields : List Shape) → count (zeros fields) ≡ length fields
count_zeros [] = refl
count_zeros (f ∷ fields) = ap (λ k. suc k) (count_zeros fields)

count_least : (fields : List Shape) → count (at_least_one (zeros fields)) ≡ max (length fields) 1
count_least [] = refl
count_least (f ∷ fields) = ap (λ k. suc k) (count_zeros fields) ∙ omega arith

pub record_count : (fields : List Shape) → count (zero_of (Record fields)) ≡ max (length fields) 1
record_count fields = ap count (record_zero fields) ∙ count_least fields

-- ---- objects that were seen

pub text_elements : (o : Seen) (n : ℕ) → object_seen o ≡ Some (Of (Array n Basic)) → elements_in (object_seen o) ≡ Some Basic
text_elements o n e = ap elements_in e ∙ array_element n Basic

pub text_cells : (o : Seen) (n : ℕ) → object_seen o ≡ Some (Of (Array n Basic)) → n ≡ size (zero_in (object_seen o))
text_cells o n e = let m : n ≡ n * 1 = omega arith in m ∙ sym (ap (λ x. size (zero_in x)) e ∙ array_size n Basic)

pub text_before : (o : Seen) (n i : ℕ) → object_seen o ≡ Some (Of (Array n Basic)) → min i n ≡ before (zero_in (object_seen o)) i
text_before o n i e = let m : min i n ≡ min i n * 1 = omega arith in m ∙ sym (ap (λ x. before (zero_in x) i) e ∙ array_before n i Basic)
