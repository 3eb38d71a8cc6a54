-- Types are the same exactly where they are equal.
use Rattle.std.proofs.Common.{◌≡◌, ℕ, Bool, true, false, ◌&&◌, nat_eq, List, ◌∷◌, refl, ap, sym, ◌∙◌}
use Rattle.std.proofs.lemmas.Bool.Decides.{Decides-eqb}
use Rattle.std.proofs.lemmas.Slice.Eq.{bytes_eq-Decides, slice_eq-Decides}
use Rattle.std.specs.Cmp.Lexicographic.{pointwise}
use Rattle.std.specs.Str.{bytes_eq}
use Rattle.ob_types.specs.declared.structure.Basic.{Basic}
use Rattle.ob_types.specs.declared.structure.Basic.TheVariants as basic
use Rattle.ob_types.specs.declared.structure.RecordName.{RecordName}
use Rattle.ob_types.specs.declared.structure.Field.{Field}
use Rattle.ob_types.specs.declared.structure.ObType.{ObType, end_of-ObType, more_of-ObType}
use Rattle.ob_types.specs.declared.structure.ObType.TheBlock.{Row_of-Field, end_of-Field, more_of-Field, items-the_row-Field, items_shown-the_row-Field-1}
use Rattle.ob_types.specs.declared.structure.ObType.TheVariants.{Basic as OfBasic, Array, Open, Array', Open', Record}
use Rattle.ob_types.specs.declared.structure.RecordType.{RecordType, RecordType', out-RecordType, roll-RecordType, roll-out-RecordType}
use Rattle.ob_types.specs.Types.{same, same_field, same_fields, same_basic, same_truth, same_record}

first_holds : (a b : Bool) → (a && b) ≡ true → a ≡ true
first_holds true b h = refl
first_holds false b h = absurd (let k : false ≡ true = h in cc)

second_holds : (a b : Bool) → (a && b) ≡ true → b ≡ true
second_holds true b h = h
second_holds false b h = absurd (let k : false ≡ true = h in cc)

both_hold : (a b : Bool) → a ≡ true → b ≡ true → (a && b) ≡ true
both_hold a b h k = ap (λ x. x && b) h ∙ k

basic_true : (b c : Basic) → same_basic b c ≡ true → b ≡ c
basic_true basic.Integer basic.Integer h = refl
basic_true basic.Boolean basic.Boolean h = refl
basic_true basic.Char basic.Char h = refl
basic_true basic.Byte basic.Byte h = refl
basic_true basic.Integer basic.Boolean h = absurd (let k : false ≡ true = h in cc)
basic_true basic.Integer basic.Char h = absurd (let k : false ≡ true = h in cc)
basic_true basic.Integer basic.Byte h = absurd (let k : false ≡ true = h in cc)
basic_true basic.Boolean basic.Integer h = absurd (let k : false ≡ true = h in cc)
basic_true basic.Boolean basic.Char h = absurd (let k : false ≡ true = h in cc)
basic_true basic.Boolean basic.Byte h = absurd (let k : false ≡ true = h in cc)
basic_true basic.Char basic.Integer h = absurd (let k : false ≡ true = h in cc)
basic_true basic.Char basic.Boolean h = absurd (let k : false ≡ true = h in cc)
basic_true basic.Char basic.Byte h = absurd (let k : false ≡ true = h in cc)
basic_true basic.Byte basic.Integer h = absurd (let k : false ≡ true = h in cc)
basic_true basic.Byte basic.Boolean h = absurd (let k : false ≡ true = h in cc)
basic_true basic.Byte basic.Char h = absurd (let k : false ≡ true = h in cc)

basic_own : (b : Basic) → same_basic b b ≡ true
basic_own basic.Integer = refl
basic_own basic.Boolean = refl
basic_own basic.Char = refl
basic_own basic.Byte = refl

truth_true : (a b : Bool) → same_truth a b ≡ true → a ≡ b
truth_true true b h = sym h
truth_true false true h = absurd (let k : false ≡ true = h in cc)
truth_true false false h = refl

truth_own : (a : Bool) → same_truth a a ≡ true
truth_own true = refl
truth_own false = refl

text_own : (x : List ℕ) → bytes_eq x x ≡ true
text_own x = (bytes_eq-Decides x x).1 refl

text_true : (x y : List ℕ) → bytes_eq x y ≡ true → x ≡ y
text_true x y = (bytes_eq-Decides x y).0

number_own : (n : ℕ) → nat_eq n n ≡ true
number_own n = (Decides-eqb n n).1 refl

number_true : (n m : ℕ) → nat_eq n m ≡ true → n ≡ m
number_true n m = (Decides-eqb n m).0

texts_true : (xs ys : List (List ℕ)) → pointwise bytes_eq xs ys ≡ true → xs ≡ ys
texts_true xs ys = (slice_eq-Decides bytes_eq-Decides xs ys (pointwise bytes_eq xs ys) refl).0

texts_own : (xs : List (List ℕ)) → pointwise bytes_eq xs xs ≡ true
texts_own xs = (slice_eq-Decides bytes_eq-Decides xs xs (pointwise bytes_eq xs xs) refl).1 refl

name_true : (x y : RecordName) → same_record x y ≡ true → x ≡ y
name_true x y h =
    let a = first_holds (bytes_eq x.module_name y.module_name && pointwise bytes_eq x.enclosing y.enclosing && bytes_eq x.declared y.declared) (nat_eq x.before y.before) h in
    let b = first_holds (bytes_eq x.module_name y.module_name && pointwise bytes_eq x.enclosing y.enclosing) (bytes_eq x.declared y.declared) a in
    let e = text_true x.module_name y.module_name (first_holds (bytes_eq x.module_name y.module_name) (pointwise bytes_eq x.enclosing y.enclosing) b) in
    let f = texts_true x.enclosing y.enclosing (second_holds (bytes_eq x.module_name y.module_name) (pointwise bytes_eq x.enclosing y.enclosing) b) in
    let g = text_true x.declared y.declared (second_holds (bytes_eq x.module_name y.module_name && pointwise bytes_eq x.enclosing y.enclosing) (bytes_eq x.declared y.declared) a) in
    let k = number_true x.before y.before (second_holds (bytes_eq x.module_name y.module_name && pointwise bytes_eq x.enclosing y.enclosing && bytes_eq x.declared y.declared) (nat_eq x.before y.before) h) in
    λ i. record { module_name = e i; enclosing = f i; declared = g i; before = k i }

pub name_own : (x : RecordName) → same_record x x ≡ true
name_own x = both_hold _ _ (both_hold _ _ (both_hold _ _ (text_own x.module_name) (texts_own x.enclosing)) (text_own x.declared)) (number_own x.before)

pub record_equal : (r s : RecordType) → (out-RecordType r).name ≡ (out-RecordType s).name → (out-RecordType r).fields ≡ (out-RecordType s).fields → Record r ≡ Record s
record_equal r s e f = ap Record (sym (roll-out-RecordType r) ∙ (λ i. roll-RecordType (record { name = e i; fields = f i })) ∙ roll-out-RecordType s)

one_more : (x y : Field) (xs ys : List Field) → x ≡ y → xs ≡ ys → x ∷ xs ≡ y ∷ ys
one_more x y xs ys e f = λ i. e i ∷ f i

mutual
  unfolding Rattle.ob_types.specs.declared.structure.ObType.TheBlock.hidden-the_row-ObType-0 denote.Hole.Carrier.hidden out-RecordType denote.Hole.Carrier.out

  pub same_true : (a b : ObType) → same a b ≡ true → a ≡ b
  same_true (OfBasic a) (OfBasic b) h = ap OfBasic (basic_true a b h)
  same_true (Array' n p (more_of-ObType a end_of-ObType)) (Array' m q (more_of-ObType b end_of-ObType)) h =
      let e = number_true n m (first_holds (nat_eq n m) (same a b) h) in
      let f = same_true a b (second_holds (nat_eq n m) (same a b) h) in
      λ i. Array (e i) (f i)
  same_true (Open' p (more_of-ObType a end_of-ObType)) (Open' q (more_of-ObType b end_of-ObType)) h = ap Open (same_true a b h)
  same_true (Record (RecordType' x k xs)) (Record (RecordType' y j ys)) h =
      record_equal (RecordType' x k xs) (RecordType' y j ys) (name_true x y (first_holds (same_record x y) (same_fields xs ys) h))
      (items_shown-the_row-Field-1 k xs ∙ fields_true _ xs _ ys (second_holds (same_record x y) (same_fields xs ys) h) ∙ sym (items_shown-the_row-Field-1 j ys))
  same_true (OfBasic a) (Array' m q (more_of-ObType y end_of-ObType)) h = absurd (let l : false ≡ true = h in cc)
  same_true (OfBasic a) (Open' q (more_of-ObType y end_of-ObType)) h = absurd (let l : false ≡ true = h in cc)
  same_true (OfBasic a) (Record (RecordType' z k zs)) h = absurd (let l : false ≡ true = h in cc)
  same_true (Array' n p (more_of-ObType x end_of-ObType)) (OfBasic b) h = absurd (let l : false ≡ true = h in cc)
  same_true (Array' n p (more_of-ObType x end_of-ObType)) (Open' q (more_of-ObType y end_of-ObType)) h = absurd (let l : false ≡ true = h in cc)
  same_true (Array' n p (more_of-ObType x end_of-ObType)) (Record (RecordType' z k zs)) h = absurd (let l : false ≡ true = h in cc)
  same_true (Open' p (more_of-ObType x end_of-ObType)) (OfBasic b) h = absurd (let l : false ≡ true = h in cc)
  same_true (Open' p (more_of-ObType x end_of-ObType)) (Array' m q (more_of-ObType y end_of-ObType)) h = absurd (let l : false ≡ true = h in cc)
  same_true (Open' p (more_of-ObType x end_of-ObType)) (Record (RecordType' z k zs)) h = absurd (let l : false ≡ true = h in cc)
  same_true (Record (RecordType' z k zs)) (OfBasic b) h = absurd (let l : false ≡ true = h in cc)
  same_true (Record (RecordType' z k zs)) (Array' m q (more_of-ObType y end_of-ObType)) h = absurd (let l : false ≡ true = h in cc)
  same_true (Record (RecordType' z k zs)) (Open' q (more_of-ObType y end_of-ObType)) h = absurd (let l : false ≡ true = h in cc)

  fields_true : (k : _) (xs : Row_of-Field k) (j : _) (ys : Row_of-Field j) → same_fields xs ys ≡ true → items-the_row-Field k xs ≡ items-the_row-Field j ys
  fields_true k end_of-Field j end_of-Field h = refl
  fields_true k end_of-Field j (more_of-Field y f b ys) h = absurd (let l : false ≡ true = h in cc)
  fields_true k (more_of-Field x e a xs) j end_of-Field h = absurd (let l : false ≡ true = h in cc)
  fields_true k (more_of-Field x e a xs) j (more_of-Field y f b ys) h =
      let rest = fields_true _ xs _ ys (second_holds (bytes_eq x y && same_truth e f && same a b) (same_fields xs ys) h) in
      let here = first_holds (bytes_eq x y && same_truth e f && same a b) (same_fields xs ys) h in
      let of = same_true a b (second_holds (bytes_eq x y && same_truth e f) (same a b) here) in
      let front = first_holds (bytes_eq x y && same_truth e f) (same a b) here in
      let name = text_true x y (first_holds (bytes_eq x y) (same_truth e f) front) in
      let mark = truth_true e f (second_holds (bytes_eq x y) (same_truth e f) front) in
      λ i. record { name = name i; exported = mark i; of = of i } ∷ rest i

mutual
  pub same_own : (a : ObType) → same a a ≡ true
  same_own (OfBasic b) = basic_own b
  same_own (Array' n p (more_of-ObType a end_of-ObType)) = both_hold (nat_eq n n) (same a a) (number_own n) (same_own a)
  same_own (Open' p (more_of-ObType a end_of-ObType)) = same_own a
  same_own (Record (RecordType' x k xs)) = both_hold (same_record x x) (same_fields xs xs) (name_own x) (fields_own _ xs)

  fields_own : (k : _) (xs : Row_of-Field k) → same_fields xs xs ≡ true
  fields_own k end_of-Field = refl
  fields_own k (more_of-Field x e a xs) =
      both_hold (bytes_eq x x && same_truth e e && same a a) (same_fields xs xs) (both_hold (bytes_eq x x && same_truth e e) (same a a) (both_hold (bytes_eq x x) (same_truth e e) (text_own x) (truth_own e)) (same_own a)) (fields_own _ xs)

pub field_own : (f : Field) → same_field f f ≡ true
field_own f = both_hold _ _ (both_hold _ _ (text_own f.name) (truth_own f.exported)) (same_own f.of)
