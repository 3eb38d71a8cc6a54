-- What stands at a part of a variable suits the type of the part.
use Rattle.std.proofs.Common.{◌≡◌, ◌⊎◌, inl, inr, ℕ, zero, suc, ◌+◌, Bool, true, false, cond, List, [], ◌∷◌, Option, Some, None, slice_get, refl, sym, ap, ◌∙◌, arith}
use Rattle.std.specs.Str.{bytes_eq}
use Rattle.ob_types.specs.declared.structure.Basic.{Basic}
use Rattle.ob_types.specs.declared.structure.Field.{Field}
use Rattle.ob_types.specs.declared.structure.RecordType.{RecordType}
use Rattle.ob_types.specs.declared.structure.ObType.{ObType, end_of-ObType, more_of-ObType, out-ObType}
use Rattle.ob_types.specs.declared.structure.ObType.TheVariants.{Basic as OfBasic, Array', Open', Array, Open, Record}
use Rattle.ob_types.specs.declared.structure.ObType.TheBlock as block
use Rattle.ob_types.specs.Types.{is_char}
use Rattle.ob_mean.specs.declared.shape.Shape.{Shape, Row_of-Shape, end_of-Shape, more_of-Shape, items-the_row-Shape, items_hidden-the_row-Shape-1}
use Rattle.ob_mean.specs.declared.shape.Shape.TheVariants as shape
use Rattle.ob_mean.specs.WellFormed.{Object, Of, elements_in, field_shape, field_at, shape_object}
use Rattle.ob_check_operand.specs.Operands.{is_text}
use Rattle.ob_check_operand.specs.Selecting.{field_from, element_of}
use Rattle.ob_check_stmt.specs.Assignments.{is_open}
use Rattle.ob_check_kinds.specs.Shapes.{shape_of, shapes_in}
use Rattle.ob_check_kinds.proofs.ShapeForms.{shape_array, shape_open}
use Rattle.ob_check_laws.specs.Fitting.{Suits}

pub never : {A : Type 0} → false ≡ true → A
never e = absurd (let k : false ≡ true = e in cc)

pub nothing : {A B : Type 0} (a : A) → None ≡ Some a → B
nothing {A} {B} a e = absurd (let k : None ≡ Some a = e in cc)

pub some_same : {A : Type 0} (a b : A) → Some a ≡ Some b → a ≡ b
some_same a b e = cc

open_is : (e : ObType) → is_open (Open e) ≡ true
unfolding Rattle.ob_types.specs.declared.structure.ObType.TheBlock.hidden-the_row-ObType-0 denote.Hole.Carrier.hidden
open_is e = refl

-- what is no open array is of the shape of its type
pub closed_suits : (t : ObType) (o : Option Object) → is_open t ≡ false → Suits t o → o ≡ Some (Of (shape_of t))
closed_suits t o c (inl e) = e
closed_suits t o c (inr (e, p, q)) = never (sym c ∙ ap is_open p ∙ open_is e)

pub basic_suits : (b : Basic) (o : Option Object) → Suits (OfBasic b) o → o ≡ Some (Of shape.Basic)
basic_suits b o h = closed_suits (OfBasic b) o refl h

array_elements : (n : ℕ) (s : Shape) → elements_in (Some (Of (shape.Array n s))) ≡ Some s
unfolding Rattle.ob_mean.specs.declared.shape.Shape.TheBlock.hidden-the_row-Shape-0 denote.Hole.Carrier.hidden
array_elements n s = refl

element_of_open : (e : ObType) → element_of (Open e) ≡ Some e
unfolding Rattle.ob_types.specs.declared.structure.ObType.TheBlock.hidden-the_row-ObType-0 denote.Hole.Carrier.hidden block.shown-the_row-ObType-0 denote.Hole.Carrier.shown out-ObType denote.Hole.Carrier.out
element_of_open e = refl

element_of_array : (n : ℕ) (e : ObType) → element_of (Array n e) ≡ Some e
unfolding Rattle.ob_types.specs.declared.structure.ObType.TheBlock.hidden-the_row-ObType-0 denote.Hole.Carrier.hidden block.shown-the_row-ObType-0 denote.Hole.Carrier.shown out-ObType denote.Hole.Carrier.out
element_of_array n e = refl

-- an array, open or not
pub array_forms : (t e : ObType) → element_of t ≡ Some e → ((n : ℕ) × (t ≡ Array n e)) ⊎ (t ≡ Open e)
unfolding Rattle.ob_types.specs.declared.structure.ObType.TheBlock.hidden-the_row-ObType-0 denote.Hole.Carrier.hidden block.shown-the_row-ObType-0 denote.Hole.Carrier.shown out-ObType denote.Hole.Carrier.out
array_forms (OfBasic b) e h = nothing e h
array_forms (Array' n p (more_of-ObType x end_of-ObType)) e h = inl (n, ap (Array n) (some_same x e h))
array_forms (Open' p (more_of-ObType x end_of-ObType)) e h = inr (ap Open (some_same x e h))
array_forms (Record r) e h = nothing e h

array_not_open : (n : ℕ) (e : ObType) → is_open (Array n e) ≡ false
unfolding Rattle.ob_types.specs.declared.structure.ObType.TheBlock.hidden-the_row-ObType-0 denote.Hole.Carrier.hidden
array_not_open n e = refl

-- its elements are of the shape of their type
pub elements_suit : (t e : ObType) (o : Option Object) → element_of t ≡ Some e → Suits t o → elements_in o ≡ Some (shape_of e)
elements_suit t e o h s = by (array_forms t e h) s
  where
    by : ((n : ℕ) × (t ≡ Array n e)) ⊎ (t ≡ Open e) → Suits t o → elements_in o ≡ Some (shape_of e)
    by (inl (n, f)) k =
        ap elements_in (closed_suits t o (ap is_open f ∙ array_not_open n e) k ∙ ap (λ x. Some (Of x)) (ap shape_of f ∙ shape_array n e)) ∙ array_elements n (shape_of e)
    by (inr f) (inl k) = ap elements_in (k ∙ ap (λ x. Some (Of x)) (ap shape_of f ∙ shape_open e)) ∙ array_elements 1 (shape_of e)
    by (inr f) (inr (x, p, q)) =
        ap elements_in q ∙ ap (λ y. Some (shape_of y)) (some_same x e (sym (element_of_open x) ∙ ap element_of (sym p) ∙ h))

pub char_basic : (e : ObType) → is_char e ≡ true → shape_of e ≡ shape.Basic
char_basic (OfBasic b) h = refl
char_basic (Array' n p (more_of-ObType x end_of-ObType)) h = never h
char_basic (Open' p (more_of-ObType x end_of-ObType)) h = never h
char_basic (Record r) h = never h

-- an array of characters has elements of basic type
pub text_suits : (t : ObType) (o : Option Object) → is_text t ≡ true → Suits t o → elements_in o ≡ Some shape.Basic
unfolding Rattle.ob_types.specs.declared.structure.ObType.TheBlock.hidden-the_row-ObType-0 denote.Hole.Carrier.hidden block.shown-the_row-ObType-0 denote.Hole.Carrier.shown out-ObType denote.Hole.Carrier.out
text_suits (OfBasic b) o h s = never h
text_suits (Array' n p (more_of-ObType x end_of-ObType)) o h s = elements_suit (Array n x) x o refl s ∙ ap Some (char_basic x h)
text_suits (Open' p (more_of-ObType x end_of-ObType)) o h s = elements_suit (Open x) x o refl s ∙ ap Some (char_basic x h)
text_suits (Record r) o h s = never h

-- ---- fields

abbrev IsField : ℕ → List Field → ℕ × Field → Type 0
IsField n fs q = (k : ℕ) × (q.0 ≡ n + k) × (slice_get (shapes_in fs) k ≡ Some (shape_of q.1.of))

found_by : (n : ℕ) (f : Field) (fs : List Field) (name : List ℕ) (q : ℕ × Field) (b : Bool) → (field_from (n + 1) fs name ≡ Some q → IsField (n + 1) fs q) → cond b (Some (n, f)) (field_from (n + 1) fs name) ≡ Some q → IsField n (f ∷ fs) q
found_by n f fs name q true g e = let k = some_same (n, f) q e in (0, (let u : n ≡ q.0 = ap (λ x. x.0) k in omega arith), ap (λ x. Some (shape_of x.1.of)) k)
found_by n f fs name q false g e = let k = g e in (suc k.0, (let u : q.0 ≡ n + 1 + k.0 = k.1 in omega arith), k.2)

found_from : (n : ℕ) (fs : List Field) (name : List ℕ) (q : ℕ × Field) → field_from n fs name ≡ Some q → IsField n fs q
found_from n [] name q h = nothing q h
found_from n (f ∷ fs) name q h = found_by n f fs name q (bytes_eq f.name name) (found_from (n + 1) fs name q) h

pub found_field : (fs : List Field) (name : List ℕ) (q : ℕ × Field) → field_from 0 fs name ≡ Some q → slice_get (shapes_in fs) q.0 ≡ Some (shape_of q.1.of)
found_field fs name q h =
    let k = found_from 0 fs name q h in
    let at : q.0 ≡ k.0 = (let u : q.0 ≡ 0 + k.0 = k.1 in omega arith) in
    ap (slice_get (shapes_in fs)) at ∙ k.2

row_fields : (k : _) (row : Row_of-Shape k) (i : ℕ) → field_at row i ≡ shape_object (slice_get (items-the_row-Shape k row) i)
row_fields k end_of-Shape i = refl
row_fields k (more_of-Shape s rest) zero = refl
row_fields k (more_of-Shape s rest) (suc i) = row_fields _ rest i

abbrev fields_in : Shape → (k : _) × Row_of-Shape k
fields_in (shape.Record' k fields) = (_, fields)
fields_in _ = (_, end_of-Shape)

pub record_fields : (ss : List Shape) (i : ℕ) → field_shape (shape.Record ss) i ≡ shape_object (slice_get ss i)
record_fields ss i =
    row_fields (fields_in (shape.Record ss)).0 (fields_in (shape.Record ss)).1 i ∙ ap (λ l. shape_object (slice_get l i)) (items_hidden-the_row-Shape-1 ss)

pub record_not_open : (r : RecordType) → is_open (Record r) ≡ false
record_not_open r = refl
