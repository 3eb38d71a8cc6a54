-- The kind of a type that a declaration can make fits: each name has the cells of its part, and they are few.
use Rattle.std.proofs.Common.{◌≡◌, ◌≤◌, ◌<◌, ℕ, zero, suc, ◌+◌, ◌*◌, max, nat_le, Bool, true, false, ◌&&◌, cond, List, [], ◌∷◌, length, Option, Some, None, option_map, slice_get, refl, sym, ap, ◌∙◌, subst, arith}
use Rattle.std.proofs.lemmas.Bool.Decides.{nat_tests}
use Rattle.ob_types.specs.declared.structure.ObType.{ObType, end_of-ObType, more_of-ObType}
use Rattle.ob_types.specs.declared.structure.ObType.TheVariants.{Basic as OfBasic, Array', Open', Record}
use Rattle.ob_types.specs.declared.structure.ObType.TheBlock.{Row_of-Field, end_of-Field, more_of-Field}
use Rattle.ob_types.specs.declared.structure.RecordType.{RecordType'}
use Rattle.ob_types.specs.Types.{cells, cells_of, levels, max_cells, max_levels, same, base_in, base_of, chain, is_admitted}
use Rattle.ob_types.proofs.SameType.{same_true}
use Rattle.ob_mean.specs.declared.shape.Shape.{Shape, Row_of-Shape, end_of-Shape, more_of-Shape, items-the_row-Shape, items_hidden-the_row-Shape-1}
use Rattle.ob_mean.specs.declared.shape.Shape.TheVariants as shape
use Rattle.ob_mean.specs.Shapes.{zero_of, zeros, at_least_one}
use Rattle.ob_mean.specs.Values.{Value, size, row}
use Rattle.ob_mean.specs.RecordTypes.{TypeNames}
use Rattle.ob_mean.specs.WellFormed.{Object, Of, AreNamed, KindFits, base_object, field_in, field_shape, field_at, shape_object}
use Rattle.ob_mean.proofs.Zeros.{array_zero, record_zero}
use Rattle.ob_types.specs.Declarable.{is_record, is_labelled, are_words, is_plain, are_plain, is_declarable}
use Rattle.ob_check_kinds.specs.Kinds.{names_of, kind_of, level_in, levels_to}
use Rattle.ob_check_kinds.specs.Shapes.{shape_of, shapes_of}
use Rattle.ob_check_kinds.proofs.KindForms.{base_names, base_level, names_step, level_step}

pub first_holds : (a b : Bool) → (a && b) ≡ true → a ≡ true
first_holds true b h = refl
first_holds false b h = absurd (let n : false ≡ true = h in cc)

pub second_holds : (a b : Bool) → (a && b) ≡ true → b ≡ true
second_holds true b h = h
second_holds false b h = absurd (let n : false ≡ true = h in cc)

nothing : {A B : Type 0} (a : A) → None ≡ Some a → B
nothing {A} {B} a e = absurd (let k : None ≡ Some a = e in cc)

some_same : {A : Type 0} (a b : A) → Some a ≡ Some b → a ≡ b
some_same a b e = cc

under : (a b : ℕ) → nat_le a b ≡ true → a ≤ b
under a b h = grind (arith, nat_tests)

-- ---- cells

row_size : (n : ℕ) (v : Value) → size (row n v) ≡ n * size v
row_size zero v = grind arith
row_size (suc n) v =
    let rest = row_size n v in
    let sum : suc n * size v ≡ size v + n * size v = grind arith in
    omega (arith, rest, sum)

times_one : (n m : ℕ) → 1 ≤ n → 1 ≤ m → 1 ≤ n * m
times_one n m h g = grind (arith, h, g)

-- a plain type has cells
some_cells : (t : ObType) → is_plain t ≡ true → 1 ≤ cells t
some_cells (OfBasic b) h = omega arith
some_cells (Array' n p (more_of-ObType e end_of-ObType)) h =
    let long = under 1 n (first_holds (nat_le 1 n) (nat_le n max_cells) (first_holds (nat_le 1 n && nat_le n max_cells) (is_plain e) h)) in
    let element = some_cells e (second_holds (nat_le 1 n && nat_le n max_cells) (is_plain e) h) in
    times_one n (cells e) long element
some_cells (Open' p (more_of-ObType e end_of-ObType)) h = some_cells e h
some_cells (Record (RecordType' name k fields)) h = omega arith

-- and its values take so many
mutual
  cells_are : (t : ObType) → is_plain t ≡ true → size (zero_of (shape_of t)) ≡ cells t
  cells_are (OfBasic b) h = refl
  cells_are (Array' n p (more_of-ObType e end_of-ObType)) h =
      let element = cells_are e (second_holds (nat_le 1 n && nat_le n max_cells) (is_plain e) h) in
      ap size (array_zero n (shape_of e)) ∙ row_size n (zero_of (shape_of e)) ∙ ap (λ m. n * m) element
  cells_are (Open' p (more_of-ObType e end_of-ObType)) h =
      let element = cells_are e h in
      let one = row_size 1 (zero_of (shape_of e)) in
      let same : size (zero_of (shape_of (Open' p (more_of-ObType e end_of-ObType)))) ≡ size (row 1 (zero_of (shape_of e))) = ap size (array_zero 1 (shape_of e)) in
      omega (arith, element, one, same)
  cells_are (Record (RecordType' name k fields)) h =
      ap size (record_zero (shapes_of fields)) ∙ record_cells _ fields (second_holds (are_words name) _ h)

  record_cells : (k : _) (fields : Row_of-Field k) → are_plain fields ≡ true → size (at_least_one (zeros (shapes_of fields))) ≡ max 1 (cells_of fields)
  record_cells k end_of-Field h = refl
  record_cells k (more_of-Field name exported of rest) h =
      let inside = second_holds (is_labelled name of) (is_plain of) (first_holds (is_labelled name of && is_plain of) (are_plain rest) h) in
      let one = cells_are of inside in
      let others = fields_cells _ rest (second_holds (is_labelled name of && is_plain of) (are_plain rest) h) in
      let some = some_cells of inside in
      omega (arith, one, others, some)

  fields_cells : (k : _) (fields : Row_of-Field k) → are_plain fields ≡ true → size (zeros (shapes_of fields)) ≡ cells_of fields
  fields_cells k end_of-Field h = refl
  fields_cells k (more_of-Field name exported of rest) h =
      let inside = second_holds (is_labelled name of) (is_plain of) (first_holds (is_labelled name of && is_plain of) (are_plain rest) h) in
      let one = cells_are of inside in
      let others = fields_cells _ rest (second_holds (is_labelled name of && is_plain of) (are_plain rest) h) in
      omega (arith, one, others)

-- ---- bases

-- what holds of a type where it holds of its base holds of each
mutual
  pub along : (P : ObType → Type 0) → ((t : ObType) → ((b : ObType) → base_of t ≡ Some b → P b) → P t) → (t : ObType) → P t
  along P step (OfBasic x) = step (OfBasic x) (λ b e. nothing b e)
  along P step (Array' n p x) = step (Array' n p x) (λ b e. nothing b e)
  along P step (Open' p x) = step (Open' p x) (λ b e. nothing b e)
  along P step (Record (RecordType' name k fields)) = step (Record (RecordType' name k fields)) (below P step fields)

  below : (P : ObType → Type 0) → ((t : ObType) → ((b : ObType) → base_of t ≡ Some b → P b) → P t) → {k : _} (fields : Row_of-Field k) (b : ObType) → base_in fields ≡ Some b → P b
  below P step end_of-Field b e = nothing b e
  below P step (more_of-Field [] exported of rest) b e = subst P (some_same of b e) (along P step of)
  below P step (more_of-Field (c ∷ cs) exported of rest) b e = nothing b e

-- the base of a plain type is a plain record
abbrev PlainBase : ObType → Type 0
PlainBase b = (is_plain b ≡ true) × (is_record b ≡ true)

plain_in : {k : _} (fields : Row_of-Field k) (b : ObType) → base_in fields ≡ Some b → are_plain fields ≡ true → PlainBase b
plain_in end_of-Field b e h = nothing b e
plain_in (more_of-Field [] exported of rest) b e h =
    let both = first_holds (is_record of && is_plain of) (are_plain rest) h in
    subst PlainBase (some_same of b e) (second_holds (is_record of) (is_plain of) both, first_holds (is_record of) (is_plain of) both)
plain_in (more_of-Field (c ∷ cs) exported of rest) b e h = nothing b e

pub plain_base : (t b : ObType) → base_of t ≡ Some b → is_plain t ≡ true → PlainBase b
plain_base (OfBasic x) b e h = nothing b e
plain_base (Array' n p x) b e h = nothing b e
plain_base (Open' p x) b e h = nothing b e
plain_base (Record (RecordType' name k fields)) b e h = plain_in fields b e (second_holds (are_words name) _ h)

-- ---- shapes of bases

row_fields : (k : _) (row : Row_of-Shape k) (i : ℕ) → field_at row i ≡ shape_object (slice_get (items-the_row-Shape k row) i)
row_fields k end_of-Shape i = refl
row_fields k (more_of-Shape s rest) zero = refl
row_fields k (more_of-Shape s rest) (suc i) = row_fields _ rest i

abbrev fields_in : Shape → (k : _) × Row_of-Shape k
fields_in (shape.Record' k fields) = (_, fields)
fields_in _ = (_, end_of-Shape)

record_fields : (ss : List Shape) (i : ℕ) → field_shape (shape.Record ss) i ≡ shape_object (slice_get ss i)
record_fields ss i =
    row_fields (fields_in (shape.Record ss)).0 (fields_in (shape.Record ss)).1 i ∙ ap (λ l. shape_object (slice_get l i)) (items_hidden-the_row-Shape-1 ss)

first_shape : {k : _} (fields : Row_of-Field k) (b : ObType) → base_in fields ≡ Some b → slice_get (shapes_of fields) 0 ≡ Some (shape_of b)
first_shape end_of-Field b e = nothing b e
first_shape (more_of-Field [] exported of rest) b e = ap (λ x. Some (shape_of x)) (some_same of b e)
first_shape (more_of-Field (c ∷ cs) exported of rest) b e = nothing b e

pub base_shape : (t b : ObType) → base_of t ≡ Some b → field_in (Some (Of (shape_of t))) 0 ≡ Some (Of (shape_of b))
base_shape (OfBasic x) b e = nothing b e
base_shape (Array' n p x) b e = nothing b e
base_shape (Open' p x) b e = nothing b e
base_shape (Record (RecordType' name k fields)) b e = record_fields (shapes_of fields) 0 ∙ ap shape_object (first_shape fields b e)

-- ---- kinds

abbrev Named : ObType → Type 0
Named t = is_plain t ≡ true → AreNamed (names_of t) (Some (Of (shape_of t)))

base_named : (t : ObType) → ((b : ObType) → base_of t ≡ Some b → Named b) → (o : Option ObType) → base_of t ≡ o → is_plain t ≡ true → AreNamed (base_names o) (field_in (Some (Of (shape_of t))) 0)
base_named t more None e h = tt
base_named t more (Some b) e h = subst (AreNamed (names_of b)) (sym (base_shape t b e)) (more b e (plain_base t b e h).0)

are_named : (t : ObType) → Named t
are_named = along Named (λ t more h.
    subst (λ ns. AreNamed ns (Some (Of (shape_of t)))) (sym (names_step t)) (cells_are t h, base_named t more (base_of t) refl h))

some_names : (t : ObType) → 0 < length (names_of t)
some_names t = subst (λ (ns : TypeNames). 0 < length ns) (sym (names_step t)) (omega arith)

pub declarable_plain : (t : ObType) → is_declarable t ≡ true → is_plain t ≡ true
declarable_plain t h = second_holds (is_admitted t) (is_plain t) h

few_cells : (t : ObType) → is_declarable t ≡ true → cells t ≤ 65536
few_cells t h = under (cells t) max_cells (first_holds (nat_le (cells t) max_cells) (nat_le (levels t) max_levels) (first_holds (is_admitted t) (is_plain t) h))

pub kind_fits : (t : ObType) → is_declarable t ≡ true → KindFits (kind_of t)
kind_fits t h = record {
  named = some_names t;
  bases = are_named t (declarable_plain t h);
  few = (let same = cells_are t (declarable_plain t h) in let few = few_cells t h in omega (arith, same, few));
}

-- ---- how far down another type stands

outward : (n : ℕ) (o : Option Object) → base_object n (field_in o 0) ≡ field_in (base_object n o) 0
outward zero o = refl
outward (suc n) o = ap (λ x. field_in x 0) (outward n o)

abbrev At : ObType → ObType → Type 0
At to t = (n : ℕ) → level_in to (chain t) ≡ Some n → base_object n (Some (Of (shape_of t))) ≡ Some (Of (shape_of to))

at_base : (to t : ObType) → ((b : ObType) → base_of t ≡ Some b → At to b) → (o : Option ObType) → base_of t ≡ o → (n : ℕ) → option_map suc (base_level to o) ≡ Some n → base_object n (Some (Of (shape_of t))) ≡ Some (Of (shape_of to))
at_base to t more None e n h = nothing n h
at_base to t more (Some b) e n h = by (level_in to (chain b)) refl h
  where
    by : (l : Option ℕ) → level_in to (chain b) ≡ l → option_map suc l ≡ Some n → base_object n (Some (Of (shape_of t))) ≡ Some (Of (shape_of to))
    by None g k = nothing n k
    by (Some m) g k =
        subst (λ x. base_object x (Some (Of (shape_of t))) ≡ Some (Of (shape_of to))) (some_same (suc m) n k)
        (sym (outward m (Some (Of (shape_of t)))) ∙ ap (base_object m) (base_shape t b e) ∙ more b e m g)

at_type : (to t : ObType) → ((b : ObType) → base_of t ≡ Some b → At to b) → (x : Bool) → same to t ≡ x → (n : ℕ) → cond x (Some 0) (option_map suc (base_level to (base_of t))) ≡ Some n → base_object n (Some (Of (shape_of t))) ≡ Some (Of (shape_of to))
at_type to t more true e n h =
    subst (λ x. base_object x (Some (Of (shape_of t))) ≡ Some (Of (shape_of to))) (some_same 0 n h) (ap (λ u. Some (Of (shape_of u))) (sym (same_true to t e)))
at_type to t more false e n h = at_base to t more (base_of t) refl n h

at_level : (to t : ObType) → At to t
at_level to = along (At to) (λ t more n h. at_type to t more (same to t) refl n (sym (level_step to t) ∙ h))

-- of what is so many bases down, the type can be declared and its base object is there
counted : (b : Bool) (o : Option ℕ) (n : ℕ) → cond b o None ≡ Some n → (b ≡ true) × (o ≡ Some n)
counted true o n h = (refl, h)
counted false o n h = nothing n h

pub level_down : (to t : ObType) (n : ℕ) → levels_to to t ≡ Some n → (is_declarable t ≡ true) × (base_object n (Some (Of (shape_of t))) ≡ Some (Of (shape_of to)))
level_down to t n h =
    let k = counted (is_declarable t) (level_in to (chain t)) n h in
    (k.0, at_level to t n k.1)

-- ---- and is a record where that is one

abbrev Records : ObType → ObType → Type 0
Records to t = is_plain t ≡ true → is_record t ≡ true → (n : ℕ) → level_in to (chain t) ≡ Some n → is_record to ≡ true

records_base : (to t : ObType) → ((b : ObType) → base_of t ≡ Some b → Records to b) → (o : Option ObType) → base_of t ≡ o → is_plain t ≡ true → (n : ℕ) → option_map suc (base_level to o) ≡ Some n → is_record to ≡ true
records_base to t more None e p n h = nothing n h
records_base to t more (Some b) e p n h = by (level_in to (chain b)) refl h
  where
    by : (l : Option ℕ) → level_in to (chain b) ≡ l → option_map suc l ≡ Some n → is_record to ≡ true
    by None g k = nothing n k
    by (Some m) g k = let q = plain_base t b e p in more b e q.0 q.1 m g

records_type : (to t : ObType) → ((b : ObType) → base_of t ≡ Some b → Records to b) → is_plain t ≡ true → is_record t ≡ true → (x : Bool) → same to t ≡ x → (n : ℕ) → cond x (Some 0) (option_map suc (base_level to (base_of t))) ≡ Some n → is_record to ≡ true
records_type to t more p r true e n h = ap is_record (same_true to t e) ∙ r
records_type to t more p r false e n h = records_base to t more (base_of t) refl p n h

at_records : (to t : ObType) → Records to t
at_records to = along (Records to) (λ t more p r n h. records_type to t more p r (same to t) refl n (sym (level_step to t) ∙ h))

pub level_record : (to t : ObType) (n : ℕ) → levels_to to t ≡ Some n → is_record t ≡ true → is_record to ≡ true
level_record to t n h r =
    let k = counted (is_declarable t) (level_in to (chain t)) n h in
    at_records to t (declarable_plain t k.0) r n k.1
