-- Records and their bases: where a base part is, and what is there where the type of a record is told.
use Rattle.std.proofs.Common.{◌≡◌, ℕ, zero, suc, ◌+◌, ◌-◌, ◌<◌, ◌≤◌, [], ◌∷◌, length, Option, Some, None, Bool, true, false, refl, sym, ap, ◌∙◌, subst, arith}
use Rattle.std.specs.Prelude.{slice_get, nat_eq, nat_le, ◌&&◌, ◌||◌}
use Rattle.std.proofs.lemmas.Bool.Decides.{nat_tests}
use Rattle.std.proofs.lemmas.Slice.Eq.{bytes_eq-Decides}
use Rattle.std.specs.Str.{bytes_eq}
use Rattle.ob_mean.specs.declared.kind.TypeName.{TypeName}
use Rattle.ob_mean.specs.declared.kind.RecordKind.{RecordKind}
use Rattle.ob_mean.specs.declared.shape.Shape.{Shape, Row_of-Shape, end_of-Shape, more_of-Shape}
use Rattle.ob_mean.specs.declared.shape.Shape.TheVariants.{Basic, Array', Record'}
use Rattle.ob_mean.specs.RecordTypes.{TypeNames, same_name, is_among, extends, cells_of, AtMost}
use Rattle.ob_mean.specs.Values.{Place, Part, Value, Cell, Named, Open, Nothing, Beside, append, count, size, item, before, get, offset, down, up}
use Rattle.ob_mean.specs.Shapes.{zero_of, zeros_in, at_least_one}
use Rattle.ob_mean.specs.WellFormed.{Object, Of, OpenOf, field_at, field_shape, field_in, AreNamed, KindFits, base_object, cell_limit}
use Rattle.ob_gen.specs.TypesAgree.{Shapes, AreShapes, KindAgrees}
use Rattle.ob_gen.proofs.machine.Store.{Inside, inside-leads, before-within, get-front, leads-front}

pub some_same : {A : Type 0} (x y : A) → Some x ≡ Some y → x ≡ y
some_same x y e = cc

-- ---- fields

pub field_some : (x : Option Object) (i : ℕ) (o : Object) → field_in x i ≡ Some o → (t : Shape) × (x ≡ Some (Of t)) × (field_shape t i ≡ Some o)
field_some None i o e = absurd (let n : None ≡ Some o = e in cc)
field_some (Some (Of t)) i o e = (t, refl, e)
field_some (Some (OpenOf t)) i o e = absurd (let n : None ≡ Some o = e in cc)

-- a field of a record
pub record IsField (v : Value) (i : ℕ) (o : Object) : Type 0 where
  pub kind : Shape
  pub object : o ≡ Of kind
  pub there : i < count v
  pub is : item v i ≡ zero_of kind

field_among : {k : _} (fields : Row_of-Shape k) (i : ℕ) (o : Object) → field_at fields i ≡ Some o → IsField (zeros_in fields) i o
field_among end_of-Shape i o e = absurd (let n : None ≡ Some o = e in cc)
field_among (more_of-Shape t rest) zero o e = record { kind = t; object = sym (some_same (Of t) o e); there = omega arith; is = refl }
field_among (more_of-Shape t rest) (suc i) o e =
    let f = field_among rest i o e in
    record { kind = f.kind; object = f.object; there = omega (arith, f.there); is = f.is }

in_record : {k : _} (fields : Row_of-Shape k) (i : ℕ) (o : Object) → field_at fields i ≡ Some o → IsField (at_least_one (zeros_in fields)) i o
in_record end_of-Shape i o e = absurd (let n : None ≡ Some o = e in cc)
in_record (more_of-Shape t rest) i o e = field_among (more_of-Shape t rest) i o e

pub field_is : (t : Shape) (i : ℕ) (o : Object) → field_shape t i ≡ Some o → IsField (zero_of t) i o
field_is Basic i o e = absurd (let n : None ≡ Some o = e in cc)
field_is (Array' n q r) i o e = absurd (let n : None ≡ Some o = e in cc)
field_is (Record' k fields) i o e = in_record fields i o e

-- ---- up and down

up-more : (l j : ℕ) (p : Place) → up l (down (l + j) p) ≡ down j p
up-more zero j p = let e : 0 + j ≡ j = omega arith in ap (λ n. down n p) e
up-more (suc l) j p = let e : suc l + j ≡ suc (l + j) = omega arith in ap (λ n. up (suc l) (down n p)) e ∙ up-more l j p

down-down : (l j : ℕ) (p : Place) → down l (down j p) ≡ down (l + j) p
down-down zero j p = let e : j ≡ 0 + j = omega arith in ap (λ n. down n p) e
down-down (suc l) j p = let e : suc (l + j) ≡ suc l + j = omega arith in ap (λ q. Part q 0) (down-down l j p) ∙ ap (λ n. down n p) e

base-base : (l j : ℕ) (o : Option Object) → base_object (l + j) o ≡ base_object l (base_object j o)
base-base zero j o = let e : 0 + j ≡ j = omega arith in ap (λ n. base_object n o) e
base-base (suc l) j o = let e : suc l + j ≡ suc (l + j) = omega arith in ap (λ n. base_object n o) e ∙ ap (λ x. field_in x 0) (base-base l j o)

-- a record and its base part begin at one cell
before-first : (v : Value) → before v 0 ≡ 0
before-first (Cell z) = refl
before-first (Named p t) = refl
before-first (Open p k) = refl
before-first Nothing = refl
before-first (Beside v rest) = refl

pub offset-down : (s : Value) (l : ℕ) (p : Place) → offset s (down l p) ≡ offset s p
offset-down s zero p = refl
offset-down s (suc l) p = let e = offset-down s l p in let b = before-first (get s (down l p)) in omega (arith, e, b)

-- and the base part takes no more cells
pub size-down : (s : Value) (l : ℕ) (p : Place) → size (get s (down l p)) ≤ size (get s p)
size-down s zero p = omega arith
size-down s (suc l) p = let e = size-down s l p in let b = before-within (get s (down l p)) 0 in omega (arith, e, b)

-- ---- the base part of a record

-- in this store a value of this shape stands at this place
pub record StandsAt (s : Value) (p : Place) (t : Shape) : Type 0 where
  pub leads : Inside s p
  pub is : get s p ≡ zero_of t

pub of_same : (t u : Shape) → Of t ≡ Of u → t ≡ u
of_same t u e = cc

-- the base part of what stands there
pub stands_down : (s : Value) (l : ℕ) (p : Place) (t u : Shape) → StandsAt s p t → base_object l (Some (Of t)) ≡ Some (Of u) → StandsAt s (down l p) u
stands_down s zero p t u h e = record { leads = h.leads; is = h.is ∙ ap zero_of (of_same t u (some_same _ _ e)) }
stands_down s (suc l) p t u h e =
    let f = field_some (base_object l (Some (Of t))) 0 (Of u) e in
    let under = stands_down s l p t f.0 h f.1 in
    let k = field_is f.0 0 (Of u) f.2 in
    record {
      leads = (inside-leads s (down l p) under.leads, omega (arith, k.there, ap count under.is));
      is = ap (λ v. item v 0) under.is ∙ k.is ∙ ap zero_of (sym (of_same u k.kind k.object));
    }

-- ---- a record is none of its own bases, since those have fewer parts

-- how many parts a value has
abbrev weight : Value → ℕ
weight (Cell z) = 0
weight (Named p t) = 0
weight (Open p k) = 0
weight Nothing = 0
weight (Beside v rest) = suc (weight v + weight rest)

lighter : (v : Value) → 0 < count v → weight (item v 0) < weight v
lighter (Cell z) lt = absurd (omega arith)
lighter (Named p t) lt = absurd (omega arith)
lighter (Open p k) lt = absurd (omega arith)
lighter Nothing lt = absurd (omega arith)
lighter (Beside v rest) lt = omega arith

base_weight : (l : ℕ) (t u : Shape) → base_object l (Some (Of t)) ≡ Some (Of u) → weight (zero_of u) + l ≤ weight (zero_of t)
base_weight zero t u e = let same = ap (λ x. weight (zero_of x)) (of_same t u (some_same _ _ e)) in omega (arith, same)
base_weight (suc l) t u e =
    let f = field_some (base_object l (Some (Of t))) 0 (Of u) e in
    let under = base_weight l t f.0 f.1 in
    let k = field_is f.0 0 (Of u) f.2 in
    let less = lighter (zero_of f.0) k.there in
    let same = ap weight k.is ∙ ap (λ x. weight (zero_of x)) (sym (of_same u k.kind k.object)) in
    omega (arith, under, less, same)

no_further : (i d : ℕ) (o : Option Object) (t : Shape) → base_object i o ≡ Some (Of t) → base_object (d + i) o ≡ Some (Of t) → d ≡ 0
no_further i d o t a b =
    let c : base_object d (Some (Of t)) ≡ Some (Of t) = ap (base_object d) (sym a) ∙ sym (base-base d i o) ∙ b in
    let w = base_weight d t t c in
    omega (arith, w)

base_once : (i j : ℕ) (o : Option Object) (t : Shape) → base_object i o ≡ Some (Of t) → base_object j o ≡ Some (Of t) → i ≡ j
base_once i j o t a b = by (nat_le i j) refl
  where
    by : (x : Bool) → nat_le i j ≡ x → i ≡ j
    by true e =
        let le : i ≤ j = grind (arith, nat_tests) in
        let d : j ≡ (j - i) + i = omega (arith, le) in
        let none = no_further i (j - i) o t a (ap (λ n. base_object n o) (sym d) ∙ b) in
        omega (arith, le, none)
    by false e =
        let le : j ≤ i = grind (arith, nat_tests) in
        let d : i ≡ (i - j) + j = omega (arith, le) in
        let none = no_further j (i - j) o t b (ap (λ n. base_object n o) (sym d) ∙ a) in
        omega (arith, le, none)

-- ---- names

both_hold : (a b : Bool) → (a && b) ≡ true → (a ≡ true) × (b ≡ true)
both_hold true b e = (refl, e)
both_hold false b e = absurd (let n : false ≡ true = e in cc)

-- names that are found alike are one
same_is : (x y : TypeName) → same_name x y ≡ true → x ≡ y
same_is x y e =
    let both = both_hold (bytes_eq x.text y.text) (nat_eq x.cells y.cells) e in
    let text : x.text ≡ y.text = (bytes_eq-Decides x.text y.text).0 both.0 in
    let even = both.1 in
    let cells : x.cells ≡ y.cells = grind (arith, nat_tests) in
    ap (λ t. record { text = t; cells = x.cells }) text ∙ ap (λ n. record { text = y.text; cells = n }) cells

-- a name that is among these stands at a place there
among : (x : TypeName) (t : TypeNames) → is_among x t ≡ true → (j : ℕ) × (slice_get t j ≡ Some x)
among x [] e = absurd (let n : false ≡ true = e in cc)
among x (y ∷ ys) e = by (same_name x y) refl (λ l. among x ys l)
  where
    by : (b : Bool) → same_name x y ≡ b → (is_among x ys ≡ true → (j : ℕ) × (slice_get ys j ≡ Some x)) → (j : ℕ) × (slice_get (y ∷ ys) j ≡ Some x)
    by true h later = (0, ap Some (sym (same_is x y h)))
    by false h later = let r = later (sym (ap (λ b. b || is_among x ys) h) ∙ e) in (suc r.0, r.1)

-- its shape is that of the base part so many levels down
shape_at_name : (shapes : Shapes) (t : TypeNames) (o : Option Object) (j : ℕ) (x : TypeName) → AreShapes shapes t o → slice_get t j ≡ Some x → base_object j o ≡ Some (Of (shapes x))
shape_at_name shapes [] o j x h e = absurd (let n : None ≡ Some x = e in cc)
shape_at_name shapes (y ∷ ys) o zero x h e = h.0 ∙ ap (λ z. Some (Of (shapes z))) (some_same y x e)
shape_at_name shapes (y ∷ ys) o (suc j) x h e =
    let r = shape_at_name shapes ys (field_in o 0) j x h.1 e in
    let more : suc j ≡ j + 1 = omega arith in
    ap (λ n. base_object n o) more ∙ base-base j 1 o ∙ r

-- ---- what is told

-- how many cells a name stands for
abbrev pub named_cells : Value → Place → TypeNames → ℕ
named_cells s q [] = size (get s q)
named_cells s q (x ∷ xs) = x.cells

-- where it tells a type, it takes the cells of that
pub some_cells : (s : Value) (q : Place) (t : TypeNames) → 0 < length t → cells_of t ≡ named_cells s q t
some_cells s q [] lt = absurd (omega (arith, lt))
some_cells s q (x ∷ xs) lt = refl

-- a record type takes the cells of its shape
pub record_size : (k : RecordKind) → KindFits k → cells_of k.names ≡ size (zero_of k.shape)
record_size k fits = by k.names fits.named fits.bases
  where
    by : (t : TypeNames) → 0 < length t → AreNamed t (Some (Of k.shape)) → cells_of t ≡ size (zero_of k.shape)
    by [] lt n = absurd (omega (arith, lt))
    by (x ∷ xs) lt n = sym n.0

-- and a name that tells it stands for so many
pub kind_cells : (s : Value) (q : Place) (k : RecordKind) → KindFits k → named_cells s q k.names ≡ size (zero_of k.shape)
kind_cells s q k fits = sym (some_cells s q k.names fits.named) ∙ record_size k fits

-- the record of this type at that place, in whose type the part so many levels down has this shape
pub record HoldsTold (shapes : Shapes) (s : Value) (q : Place) (t : TypeNames) (u : Shape) : Type 0 where
  pub kind : RecordKind
  pub names : kind.names ≡ t
  pub fits : KindFits kind
  pub agrees : KindAgrees shapes kind
  pub levels : ℕ
  pub top : Place
  pub part : q ≡ down levels top
  pub whole : StandsAt s top kind.shape
  pub base : base_object levels (Some (Of kind.shape)) ≡ Some (Of u)

-- the part is there
pub part_stands : (shapes : Shapes) (s : Value) (q : Place) (t : TypeNames) (u : Shape) → HoldsTold shapes s q t u → StandsAt s q u
part_stands shapes s q t u h = subst (λ p. StandsAt s p u) (sym h.part) (stands_down s h.levels h.top h.kind.shape u h.whole h.base)

-- each name that tells its type stands for as many cells, wherever that is
pub told_cells : (shapes : Shapes) (s : Value) (q : Place) (t : TypeNames) (u : Shape) (h : HoldsTold shapes s q t u) (s' : Value) (q' : Place) → named_cells s' q' t ≡ size (zero_of h.kind.shape)
told_cells shapes s q t u h s' q' = ap (named_cells s' q') (sym h.names) ∙ kind_cells s' q' h.kind h.fits

-- the part lies in what its name stands for
pub told_within : (shapes : Shapes) (s : Value) (q : Place) (t : TypeNames) (u : Shape) → HoldsTold shapes s q t u → size (get s q) ≤ named_cells s q t
told_within shapes s q t u h =
    let cells = told_cells shapes s q t u h s q in
    let part = ap (λ p. size (get s p)) h.part in
    let less = size-down s h.levels h.top in
    let whole = ap size h.whole.is in
    omega (arith, cells, part, less, whole)

-- which are few
pub told_few : (shapes : Shapes) (s : Value) (q : Place) (t : TypeNames) (u : Shape) → HoldsTold shapes s q t u → named_cells s q t < cell_limit
told_few shapes s q t u h = let cells = told_cells shapes s q t u h s q in let few = h.fits.few in omega (arith, cells, few)

-- what is told of a record that is named by its type
pub told_whole : (shapes : Shapes) (s : Value) (q : Place) (k : RecordKind) → KindFits k → KindAgrees shapes k → StandsAt s q k.shape → HoldsTold shapes s q k.names k.shape
told_whole shapes s q k fits agrees stands = record { kind = k; names = refl; fits = fits; agrees = agrees; levels = 0; top = q; part = refl; whole = stands; base = refl }

-- of its base part the same is told
pub told_down : (shapes : Shapes) (s : Value) (q : Place) (t : TypeNames) (u v : Shape) (l : ℕ) → HoldsTold shapes s q t u → base_object l (Some (Of u)) ≡ Some (Of v) → HoldsTold shapes s (down l q) t v
told_down shapes s q t u v l h e = record {
  kind = h.kind;
  names = h.names;
  fits = h.fits;
  agrees = h.agrees;
  levels = l + h.levels;
  top = h.top;
  part = ap (down l) h.part ∙ down-down l h.levels h.top;
  whole = h.whole;
  base = base-base l h.levels (Some (Of h.kind.shape)) ∙ ap (base_object l) h.base ∙ e;
}

-- what stands there stays there when more comes after
stands_front : (s more : Value) (p : Place) (t : Shape) → StandsAt s p t → StandsAt (append s more) p t
stands_front s more p t h = record { leads = leads-front s more p h.leads; is = get-front s more p h.leads ∙ h.is }

pub told_front : (shapes : Shapes) (s more : Value) (q : Place) (t : TypeNames) (u : Shape) → HoldsTold shapes s q t u → HoldsTold shapes (append s more) q t u
told_front shapes s more q t u h = record {
  kind = h.kind;
  names = h.names;
  fits = h.fits;
  agrees = h.agrees;
  levels = h.levels;
  top = h.top;
  part = h.part;
  whole = stands_front s more h.top h.kind.shape h.whole;
  base = h.base;
}

-- what it means that a type is extended: its own name is among those that are told
extends_at : (t : TypeNames) (k : RecordKind) → KindFits k → extends t k.names ≡ true → (x : TypeName) × (xs : TypeNames) × (k.names ≡ x ∷ xs) × (is_among x t ≡ true)
extends_at t k fits e = by k.names fits.named refl e
  where
    by : (n : TypeNames) → 0 < length n → k.names ≡ n → extends t n ≡ true → (x : TypeName) × (xs : TypeNames) × (k.names ≡ x ∷ xs) × (is_among x t ≡ true)
    by [] lt same e = absurd (omega (arith, lt))
    by (x ∷ xs) lt same e = (x, xs, same, e)

-- a record and its parts, down to its bases, begin at one cell
told_offset : (shapes : Shapes) (s : Value) (q : Place) (t : TypeNames) (u : Shape) (h : HoldsTold shapes s q t u) → offset s q ≡ offset s h.top
told_offset shapes s q t u h = ap (offset s) h.part ∙ offset-down s h.levels h.top

-- where a type is told that extends this one, a record of this type is there, of which the part is a base
pub guard_holds : (shapes : Shapes) (s : Value) (q : Place) (t : TypeNames) (u : Shape) (k : RecordKind) (l : ℕ) → HoldsTold shapes s q t u → KindFits k → KindAgrees shapes k → base_object l (Some (Of k.shape)) ≡ Some (Of u) → extends t k.names ≡ true → HoldsTold shapes s (up l q) t k.shape
guard_holds shapes s q t u k l h fits agrees base e =
    let o = Some (Of h.kind.shape) in
    let x = extends_at t k fits e in
    let at = among x.0 t x.3 in
    let j = at.0 in
    let own : AreShapes shapes (x.0 ∷ x.1) (Some (Of k.shape)) = subst (λ n. AreShapes shapes n (Some (Of k.shape))) x.2 agrees in
    let all : AreShapes shapes t o = subst (λ n. AreShapes shapes n o) h.names h.agrees in
    let found : base_object j o ≡ Some (Of k.shape) = shape_at_name shapes t o j x.0 all at.1 ∙ sym own.0 in
    let lower : base_object (l + j) o ≡ Some (Of u) = base-base l j o ∙ ap (base_object l) found ∙ base in
    let levels : h.levels ≡ l + j = base_once h.levels (l + j) o u h.base lower in
    record {
      kind = h.kind;
      names = h.names;
      fits = h.fits;
      agrees = h.agrees;
      levels = j;
      top = h.top;
      part = ap (up l) (h.part ∙ ap (λ n. down n h.top) levels) ∙ up-more l j h.top;
      whole = h.whole;
      base = found;
    }

-- and begins where the part does
pub guard_offset : (shapes : Shapes) (s : Value) (q : Place) (t : TypeNames) (u : Shape) (k : RecordKind) (l : ℕ) → HoldsTold shapes s q t u → KindFits k → KindAgrees shapes k → base_object l (Some (Of k.shape)) ≡ Some (Of u) → extends t k.names ≡ true → offset s (up l q) ≡ offset s q
unfolding guard_holds
guard_offset shapes s q t u k l h fits agrees base e =
    told_offset shapes s (up l q) t k.shape (guard_holds shapes s q t u k l h fits agrees base e) ∙ sym (told_offset shapes s q t u h)

-- ---- how many cells the bases have

-- the types of a record and of its bases take no more cells than it has
at_most : (most : ℕ) (t : TypeNames) (o : Option Object) → ((u : Shape) → o ≡ Some (Of u) → size (zero_of u) ≤ most) → AreNamed t o → AtMost most t
at_most most [] o few h = tt
at_most most (x ∷ xs) None few h = absurd h.0
at_most most (x ∷ xs) (Some (OpenOf u)) few h = absurd h.0
at_most most (x ∷ xs) (Some (Of u)) few h =
    let le = few u refl in
    let cells = h.0 in (
      omega (arith, le, cells),
      at_most most xs (field_in (Some (Of u)) 0) (λ v e.
          let k = field_is u 0 (Of v) e in
          let same = ap size k.is ∙ ap (λ y. size (zero_of y)) (sym (of_same v k.kind k.object)) in
          let less = before-within (zero_of u) 0 in
          omega (arith, le, same, less)) h.1,
    )

-- a base takes no more cells than the record
pub base_size : (l : ℕ) (t u : Shape) → base_object l (Some (Of t)) ≡ Some (Of u) → size (zero_of u) ≤ size (zero_of t)
base_size zero t u e = let same = ap (λ x. size (zero_of x)) (of_same t u (some_same _ _ e)) in omega (arith, same)
base_size (suc l) t u e =
    let f = field_some (base_object l (Some (Of t))) 0 (Of u) e in
    let under = base_size l t f.0 f.1 in
    let k = field_is f.0 0 (Of u) f.2 in
    let less = before-within (zero_of f.0) 0 in
    let same = ap size k.is ∙ ap (λ x. size (zero_of x)) (sym (of_same u k.kind k.object)) in
    omega (arith, under, less, same)

pub types_at_most : (k : RecordKind) → KindFits k → AtMost (cells_of k.names) k.names
types_at_most k fits =
    let size_is = record_size k fits in
    at_most (cells_of k.names) k.names (Some (Of k.shape)) (λ u e. let same = ap (λ x. size (zero_of x)) (of_same k.shape u (some_same _ _ e)) in omega (arith, size_is, same)) fits.bases
