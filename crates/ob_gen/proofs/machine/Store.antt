-- The laws of the store: what is read and written through addresses is what is read and written through places.
use Rattle.std.proofs.Common.{◌≡◌, ℕ, zero, suc, ◌+◌, ◌*◌, ◌<◌, ◌≤◌, ℤ, pos, List, [], ◌∷◌, ◌++◌, length, take, drop, refl, sym, ap, ◌∙◌, subst, arith, append_assoc, length-append, append-nil}
use Rattle.std.specs.Prelude.{slice_index_or}
use Rattle.std.proofs.Math.Seq.{take-append_seam, drop-append_seam, drop-append-add}
use Rattle.ob_mean.specs.RecordTypes.{TypeNames}
use Rattle.ob_mean.specs.Values.{Place, Whole, Part, Value, Cell, Named, Open, Nothing, Beside, count, size, item, before, with_item, get, set, number, offset, shape, image, append, first, row}

-- ---- places that are there, and rows

abbrev pub Leads : Value → Place → Type 0
Leads s Whole = Unit {0}
Leads s (Part p i) = Leads s p × (i < count (get s p))

-- a place within the store, which is not the store itself
abbrev pub Inside : Value → Place → Type 0
Inside s Whole = ⊥
Inside s (Part p i) = Leads s p × (i < count (get s p))

abbrev pub IsRow : Value → Type 0
IsRow (Cell z) = ⊥
IsRow (Named p u) = ⊥
IsRow (Open p k) = ⊥
IsRow Nothing = Unit {0}
IsRow (Beside v rest) = IsRow rest

pub inside-leads : (s : Value) (p : Place) → Inside s p → Leads s p
inside-leads s Whole h = tt
inside-leads s (Part p i) h = h

pub length-image : (v : Value) → length (image v) ≡ size v
length-image (Cell z) = refl
length-image (Named p u) = refl
length-image (Open p k) = refl
length-image Nothing = refl
length-image (Beside v rest) = omega (arith, length-append (image v) (image rest), length-image v, length-image rest)

-- ---- shapes

pub shape-shape : (v : Value) → shape (shape v) ≡ shape v
shape-shape (Cell z) = refl
shape-shape (Named p u) = refl
shape-shape (Open p k) = refl
shape-shape Nothing = refl
shape-shape (Beside v rest) = let a = shape-shape v in let b = shape-shape rest in cc

pub count-shape : (v : Value) → count (shape v) ≡ count v
count-shape (Cell z) = refl
count-shape (Named p u) = refl
count-shape (Open p k) = refl
count-shape Nothing = refl
count-shape (Beside v rest) = ap suc (count-shape rest)

pub size-shape : (v : Value) → size (shape v) ≡ size v
size-shape (Cell z) = refl
size-shape (Named p u) = refl
size-shape (Open p k) = refl
size-shape Nothing = refl
size-shape (Beside v rest) = omega (arith, size-shape v, size-shape rest)

pub item-shape : (v : Value) (i : ℕ) → item (shape v) i ≡ shape (item v i)
item-shape (Cell z) i = refl
item-shape (Named p u) i = refl
item-shape (Open p k) i = refl
item-shape Nothing i = refl
item-shape (Beside v rest) zero = refl
item-shape (Beside v rest) (suc i) = item-shape rest i

pub get-shape : (s : Value) (p : Place) → get (shape s) p ≡ shape (get s p)
get-shape s Whole = refl
get-shape s (Part p i) = ap (λ v. item v i) (get-shape s p) ∙ item-shape (get s p) i

pub with_item-shape : (v : Value) (i : ℕ) (x : Value) → shape x ≡ shape (item v i) → shape (with_item v i x) ≡ shape v
with_item-shape (Cell z) i x e = refl
with_item-shape (Named p u) i x e = refl
with_item-shape (Open p k) i x e = refl
with_item-shape Nothing i x e = refl
with_item-shape (Beside v rest) zero x e = ap (λ y. Beside y (shape rest)) e
with_item-shape (Beside v rest) (suc i) x e = ap (Beside (shape v)) (with_item-shape rest i x e)

-- what is set keeps the shape of the store
pub set-shape : (s : Value) (p : Place) (v : Value) → shape v ≡ shape (get s p) → shape (set s p v) ≡ shape s
set-shape s Whole v e = e
set-shape s (Part p i) v e = set-shape s p (with_item (get s p) i v) (with_item-shape (get s p) i v e)

pub before-shape : (v : Value) (i : ℕ) → before (shape v) i ≡ before v i
before-shape (Cell z) i = refl
before-shape (Named p u) i = refl
before-shape (Open p k) i = refl
before-shape Nothing i = refl
before-shape (Beside v rest) zero = refl
before-shape (Beside v rest) (suc i) = omega (arith, size-shape v, before-shape rest i)

pub offset-shape : (s : Value) (p : Place) → offset (shape s) p ≡ offset s p
offset-shape s Whole = refl
offset-shape s (Part p i) = let a = offset-shape s p in let b = ap (λ v. before v i) (get-shape s p) ∙ before-shape (get s p) i in omega (arith, a, b)

pub leads-shape : (s : Value) (p : Place) → Leads (shape s) p → Leads s p
leads-shape s Whole h = tt
leads-shape s (Part p i) h = (leads-shape s p h.0, omega (arith, h.1, ap count (get-shape s p), count-shape (get s p)))

pub shape-append : (s t : Value) → shape (append s t) ≡ append (shape s) (shape t)
shape-append (Cell z) t = refl
shape-append (Named p u) t = refl
shape-append (Open p k) t = refl
shape-append Nothing t = refl
shape-append (Beside v rest) t = ap (Beside (shape v)) (shape-append rest t)

pub row-shape : (s : Value) → IsRow (shape s) → IsRow s
row-shape (Cell z) r = r
row-shape (Named p u) r = r
row-shape (Open p k) r = r
row-shape Nothing r = r
row-shape (Beside v rest) r = row-shape rest r

pub shape-row : (s : Value) → IsRow s → IsRow (shape s)
shape-row (Cell z) r = r
shape-row (Named p u) r = r
shape-row (Open p k) r = r
shape-row Nothing r = r
shape-row (Beside v rest) r = shape-row rest r

-- ---- slices

-- where a value stands in a row of cells: after so many cells, and setting it sets just that slice
pub record Slice (whole : List ℤ) (at : ℕ) (now : Value) (again : Value → List ℤ) : Type 0 where
  pub pre : List ℤ
  pub post : List ℤ
  pub far : length pre ≡ at
  pub stands : whole ≡ pre ++ (image now ++ post)
  pub changed : (v : Value) → again v ≡ pre ++ (image v ++ post)

pub item_slice : (v : Value) (i : ℕ) → i < count v → Slice (image v) (before v i) (item v i) (λ x. image (with_item v i x))
item_slice (Cell z) i lt = absurd (omega arith)
item_slice (Named p u) i lt = absurd (omega arith)
item_slice (Open p k) i lt = absurd (omega arith)
item_slice Nothing i lt = absurd (omega arith)
item_slice (Beside v rest) zero lt = record { pre = []; post = image rest; far = refl; stands = refl; changed = λ x. refl }
item_slice (Beside v rest) (suc i) lt =
    let r = item_slice rest i (omega arith) in
    record {
      pre = image v ++ r.pre;
      post = r.post;
      far = omega (arith, length-append (image v) r.pre, length-image v, r.far);
      stands = ap (λ l. image v ++ l) r.stands ∙ sym (append_assoc (image v) r.pre (image (item rest i) ++ r.post));
      changed = λ x. ap (λ l. image v ++ l) (r.changed x) ∙ sym (append_assoc (image v) r.pre (image x ++ r.post));
    }

pub place_slice : (s : Value) (p : Place) → Leads s p → Slice (image s) (offset s p) (get s p) (λ x. image (set s p x))
place_slice s Whole lead =
    record { pre = []; post = []; far = refl; stands = sym (append-nil (image s)); changed = λ x. sym (append-nil (image x)) }
place_slice s (Part p i) lead =
    let a = place_slice s p lead.0 in
    let b = item_slice (get s p) i lead.1 in
    let flat : (m : List ℤ) → a.pre ++ ((b.pre ++ (m ++ b.post)) ++ a.post) ≡ (a.pre ++ b.pre) ++ (m ++ (b.post ++ a.post)) = λ m. simp append_assoc in
    record {
      pre = a.pre ++ b.pre;
      post = b.post ++ a.post;
      far = omega (arith, length-append a.pre b.pre, a.far, b.far);
      stands = a.stands ∙ ap (λ l. a.pre ++ (l ++ a.post)) b.stands ∙ flat (image (item (get s p) i));
      changed = λ x. a.changed (with_item (get s p) i x) ∙ ap (λ l. a.pre ++ (l ++ a.post)) (b.changed x) ∙ flat (image x);
    }

-- ---- what has the shape of a cell or of a name is one

pub cell_is : (v : Value) → shape v ≡ Cell (pos 0) → v ≡ Cell (number v)
cell_is (Cell z) e = refl
cell_is (Named p u) e = absurd (let x : Named p u ≡ Cell (pos 0) = e in cc)
cell_is (Open p k) e = absurd (let x : Open p k ≡ Cell (pos 0) = e in cc)
cell_is Nothing e = absurd (let x : Nothing ≡ Cell (pos 0) = e in cc)
cell_is (Beside a b) e = absurd (let x : Beside (shape a) (shape b) ≡ Cell (pos 0) = e in cc)

pub name_is : (v : Value) (q : Place) (t : TypeNames) → shape v ≡ Named q t → v ≡ Named q t
name_is (Cell z) q t e = absurd (let x : Cell (pos 0) ≡ Named q t = e in cc)
name_is (Named p u) q t e = e
name_is (Open p k) q t e = absurd (let x : Open p k ≡ Named q t = e in cc)
name_is Nothing q t e = absurd (let x : Nothing ≡ Named q t = e in cc)
name_is (Beside a b) q t e = absurd (let x : Beside (shape a) (shape b) ≡ Named q t = e in cc)

pub open_is : (v : Value) (q : Place) (n : ℕ) → shape v ≡ Open q n → v ≡ Open q n
open_is (Cell z) q n e = absurd (let x : Cell (pos 0) ≡ Open q n = e in cc)
open_is (Named p u) q n e = absurd (let x : Named p u ≡ Open q n = e in cc)
open_is (Open p k) q n e = e
open_is Nothing q n e = absurd (let x : Nothing ≡ Open q n = e in cc)
open_is (Beside a b) q n e = absurd (let x : Beside (shape a) (shape b) ≡ Open q n = e in cc)

-- ---- reading and writing, in a store t of the shape s

-- what stands at a place has the shape that stands there
pub shape_at : (s t : Value) (p : Place) → shape t ≡ s → shape (get t p) ≡ get s p
shape_at s t p e = sym (get-shape t p) ∙ ap (λ y. get y p) e

pub cell_at : (s t : Value) (p : Place) → shape t ≡ s → get s p ≡ Cell (pos 0) → get t p ≡ Cell (number (get t p))
cell_at s t p e is = cell_is (get t p) (shape_at s t p e ∙ is)

pub name_at : (s t : Value) (p q : Place) (types : TypeNames) → shape t ≡ s → get s p ≡ Named q types → get t p ≡ Named q types
name_at s t p q types e is = name_is (get t p) q types (shape_at s t p e ∙ is)

pub open_at : (s t : Value) (p q : Place) (n : ℕ) → shape t ≡ s → get s p ≡ Open q n → get t p ≡ Open q n
open_at s t p q n e is = open_is (get t p) q n (shape_at s t p e ∙ is)

-- the slice of a place, by the shape of the store
pub slice_at : (s t : Value) (p : Place) → shape t ≡ s → Leads s p → Slice (image t) (offset s p) (get t p) (λ x. image (set t p x))
slice_at s t p e lead =
    let f = place_slice t p (leads-shape t p (subst (λ y. Leads y p) (sym e) lead)) in
    subst (λ n. Slice (image t) n (get t p) (λ x. image (set t p x))) (sym (offset-shape t p) ∙ ap (λ y. offset y p) e) f

index-seam : (a : List ℤ) (x : ℤ) (b : List ℤ) (d : ℤ) → slice_index_or (a ++ x ∷ b) (length a) d ≡ x
index-seam [] x b d = refl
index-seam (y ∷ a) x b d = index-seam a x b d

-- a number is read through its address
pub reads : (s t : Value) (p : Place) → shape t ≡ s → Leads s p → get s p ≡ Cell (pos 0) → slice_index_or (image t) (offset s p) (pos 0) ≡ number (get t p)
reads s t p e lead is =
    let sl = slice_at s t p e lead in
    let z = number (get t p) in
    ap (λ n. slice_index_or (image t) n (pos 0)) (sym sl.far)
    ∙ ap (λ l. slice_index_or l (length sl.pre) (pos 0)) (sl.stands ∙ ap (λ v. sl.pre ++ (image v ++ sl.post)) (cell_at s t p e is))
    ∙ index-seam sl.pre z sl.post (pos 0)

-- and a value of any kind
pub reads_part : (s t : Value) (p : Place) (n : ℕ) → shape t ≡ s → Leads s p → size (get s p) ≡ n → take n (drop (offset s p) (image t)) ≡ image (get t p)
reads_part s t p n e lead many =
    let sl = slice_at s t p e lead in
    let m = image (get t p) in
    let len : n ≡ length m = sym many ∙ ap size (sym (shape_at s t p e)) ∙ size-shape (get t p) ∙ sym (length-image (get t p)) in
    ap (λ k. take n (drop k (image t))) (sym sl.far)
    ∙ ap (λ l. take n (drop (length sl.pre) l)) sl.stands
    ∙ ap (take n) (drop-append_seam sl.pre (m ++ sl.post))
    ∙ ap (λ k. take k (m ++ sl.post)) len
    ∙ take-append_seam m sl.post

-- a value is written through its address
pub writes : (s t : Value) (p : Place) (v : Value) (cells : List ℤ) → shape t ≡ s → Leads s p → shape v ≡ get s p → image v ≡ cells → image (set t p v) ≡ take (offset s p) (image t) ++ (cells ++ drop (offset s p + length cells) (image t))
writes s t p v cells e lead fits same =
    let sl = slice_at s t p e lead in
    let m = image (get t p) in
    let as_long : length cells ≡ length m = ap length (sym same) ∙ length-image v ∙ sym (size-shape v) ∙ ap size (fits ∙ sym (shape_at s t p e)) ∙ size-shape (get t p) ∙ sym (length-image (get t p)) in
    let front : take (offset s p) (image t) ≡ sl.pre = ap (λ k. take k (image t)) (sym sl.far) ∙ ap (take (length sl.pre)) sl.stands ∙ take-append_seam sl.pre (m ++ sl.post) in
    let past : offset s p + length cells ≡ length sl.pre + length m = omega (arith, sl.far, as_long) in
    let back : drop (offset s p + length cells) (image t) ≡ sl.post =
    ap (λ k. drop k (image t)) past
    ∙ ap (drop (length sl.pre + length m)) sl.stands ∙ drop-append-add sl.pre (m ++ sl.post) (length m) ∙ drop-append_seam m sl.post in
    sl.changed v
    ∙ ap (λ l. sl.pre ++ (l ++ sl.post)) same
    ∙ ap (λ l. l ++ (cells ++ sl.post)) (sym front)
    ∙ ap (λ l. take (offset s p) (image t) ++ (cells ++ l)) (sym back)

-- and the store keeps its shape
pub keeps_shape : (s t : Value) (p : Place) (v : Value) → shape t ≡ s → shape v ≡ get s p → shape (set t p v) ≡ s
keeps_shape s t p v e fits = set-shape t p v (fits ∙ sym (shape_at s t p e)) ∙ e

-- ---- a row after a row

pub count-append : (s t : Value) → count (append s t) ≡ count s + count t
count-append (Cell z) t = omega arith
count-append (Named p u) t = omega arith
count-append (Open p k) t = omega arith
count-append Nothing t = omega arith
count-append (Beside v rest) t = omega (arith, count-append rest t)

pub size-append : (s t : Value) → IsRow s → size (append s t) ≡ size s + size t
size-append (Cell z) t r = absurd r
size-append (Named p u) t r = absurd r
size-append (Open p k) t r = absurd r
size-append Nothing t r = omega arith
size-append (Beside v rest) t r = omega (arith, size-append rest t r)

pub image-append : (s t : Value) → IsRow s → image (append s t) ≡ image s ++ image t
image-append (Cell z) t r = absurd r
image-append (Named p u) t r = absurd r
image-append (Open p k) t r = absurd r
image-append Nothing t r = refl
image-append (Beside v rest) t r = ap (λ l. image v ++ l) (image-append rest t r) ∙ sym (append_assoc (image v) (image rest) (image t))

pub row-append : (s t : Value) → IsRow s → IsRow t → IsRow (append s t)
row-append (Cell z) t r q = q
row-append (Named p u) t r q = q
row-append (Open p k) t r q = q
row-append Nothing t r q = q
row-append (Beside v rest) t r q = row-append rest t r q

pub append-assoc : (a b c : Value) → append (append a b) c ≡ append a (append b c)
append-assoc (Cell z) b c = refl
append-assoc (Named p u) b c = refl
append-assoc (Open p k) b c = refl
append-assoc Nothing b c = refl
append-assoc (Beside v rest) b c = ap (Beside v) (append-assoc rest b c)

pub append-nothing : (a : Value) → IsRow a → append a Nothing ≡ a
append-nothing (Cell z) r = absurd r
append-nothing (Named p u) r = absurd r
append-nothing (Open p k) r = absurd r
append-nothing Nothing r = refl
append-nothing (Beside v rest) r = ap (Beside v) (append-nothing rest r)

-- what stood in the first row
pub item-front : (s t : Value) (i : ℕ) → i < count s → item (append s t) i ≡ item s i
item-front (Cell z) t i lt = absurd (omega arith)
item-front (Named p u) t i lt = absurd (omega arith)
item-front (Open p k) t i lt = absurd (omega arith)
item-front Nothing t i lt = absurd (omega arith)
item-front (Beside v rest) t zero lt = refl
item-front (Beside v rest) t (suc i) lt = item-front rest t i (omega arith)

pub before-front : (s t : Value) (i : ℕ) → i < count s → before (append s t) i ≡ before s i
before-front (Cell z) t i lt = absurd (omega arith)
before-front (Named p u) t i lt = absurd (omega arith)
before-front (Open p k) t i lt = absurd (omega arith)
before-front Nothing t i lt = absurd (omega arith)
before-front (Beside v rest) t zero lt = refl
before-front (Beside v rest) t (suc i) lt = omega (arith, before-front rest t i (omega arith))

-- and what comes first in the second
pub item-next : (s v rest : Value) → IsRow s → item (append s (Beside v rest)) (count s) ≡ v
item-next (Cell z) v rest r = absurd r
item-next (Named p u) v rest r = absurd r
item-next (Open p k) v rest r = absurd r
item-next Nothing v rest r = refl
item-next (Beside u s) v rest r = item-next s v rest r

pub before-next : (s t : Value) → IsRow s → before (append s t) (count s) ≡ size s
before-next (Cell z) t r = absurd r
before-next (Named p u) t r = absurd r
before-next (Open p k) t r = absurd r
before-next Nothing (Cell z) r = refl
before-next Nothing (Named p u) r = refl
before-next Nothing (Open p k) r = refl
before-next Nothing Nothing r = refl
before-next Nothing (Beside v rest) r = refl
before-next (Beside u s) t r = omega (arith, before-next s t r)

-- a place stays where it is when more comes after
pub get-front : (s t : Value) (p : Place) → Inside s p → get (append s t) p ≡ get s p
get-front s t Whole lead = absurd lead
get-front s t (Part Whole i) lead = item-front s t i lead.1
get-front s t (Part (Part p j) i) lead = ap (λ v. item v i) (get-front s t (Part p j) lead.0)

pub leads-front : (s t : Value) (p : Place) → Inside s p → Inside (append s t) p
leads-front s t Whole lead = absurd lead
leads-front s t (Part Whole i) lead = (tt, omega (arith, lead.1, count-append s t))
leads-front s t (Part (Part p j) i) lead = (leads-front s t (Part p j) lead.0, omega (arith, lead.1, ap count (get-front s t (Part p j) lead.0)))

pub offset-front : (s t : Value) (p : Place) → Inside s p → offset (append s t) p ≡ offset s p
offset-front s t Whole lead = absurd lead
offset-front s t (Part Whole i) lead = omega (arith, before-front s t i lead.1)
offset-front s t (Part (Part p j) i) lead =
    let a = offset-front s t (Part p j) lead.0 in
    let b = ap (λ v. before v i) (get-front s t (Part p j) lead.0) in
    omega (arith, a, b)

-- ---- what comes with a call and goes with its return

pub grows : (s own : Value) → IsRow s → image (append s (Beside own Nothing)) ≡ image s ++ image own
grows s own r = image-append s (Beside own Nothing) r ∙ ap (λ l. image s ++ l) (append-nil (image own))

pub first-shape : (k : ℕ) (v : Value) → shape (first k v) ≡ first k (shape v)
first-shape zero v = refl
first-shape (suc k) (Cell z) = refl
first-shape (suc k) (Named p u) = refl
first-shape (suc k) (Open p n) = refl
first-shape (suc k) Nothing = refl
first-shape (suc k) (Beside v rest) = ap (Beside (shape v)) (first-shape k rest)

pub first-append : (s t : Value) → IsRow s → first (count s) (append s t) ≡ s
first-append (Cell z) t r = absurd r
first-append (Named p u) t r = absurd r
first-append (Open p k) t r = absurd r
first-append Nothing t r = refl
first-append (Beside v rest) t r = ap (Beside v) (first-append rest t r)

first-image : (k : ℕ) (v : Value) → (more : List ℤ) × (image v ≡ image (first k v) ++ more)
first-image zero v = (image v, refl)
first-image (suc k) (Cell z) = (z ∷ [], refl)
first-image (suc k) (Named p u) = ([], refl)
first-image (suc k) (Open p n) = ([], refl)
first-image (suc k) Nothing = ([], refl)
first-image (suc k) (Beside v rest) =
    let r = first-image k rest in
    (r.0, ap (λ l. image v ++ l) r.1 ∙ sym (append_assoc (image v) (image (first k rest)) r.0))

pub shrinks-shape : (s τ t : Value) → IsRow s → shape t ≡ append s τ → shape (first (count s) t) ≡ s
shrinks-shape s τ t r e = first-shape (count s) t ∙ ap (first (count s)) e ∙ first-append s τ r

pub shrinks : (s τ t : Value) → IsRow s → shape t ≡ append s τ → image (first (count s) t) ≡ take (size s) (image t)
shrinks s τ t r e =
    let low = first (count s) t in
    let split = first-image (count s) t in
    let len : size s ≡ length (image low) = ap size (sym (shrinks-shape s τ t r e)) ∙ size-shape low ∙ sym (length-image low) in
    sym (take-append_seam (image low) split.0)
    ∙ ap (take (length (image low))) (sym split.1)
    ∙ ap (λ n. take n (image t)) (sym len)

-- ---- arrays

pub item-row : (n : ℕ) (v : Value) (i : ℕ) → i < n → item (row n v) i ≡ v
item-row zero v i lt = absurd (omega arith)
item-row (suc n) v zero lt = refl
item-row (suc n) v (suc i) lt = item-row n v i (omega arith)

pub before-row : (n : ℕ) (v : Value) (i : ℕ) → i < n → before (row n v) i ≡ i * size v
before-row zero v i lt = absurd (omega arith)
before-row (suc n) v zero lt = omega arith
before-row (suc n) v (suc i) lt = let e = before-row n v i (omega arith) in let m : suc i * size v ≡ size v + i * size v = grind arith in omega (arith, e, m)

pub count-row : (n : ℕ) (v : Value) → count (row n v) ≡ n
count-row zero v = refl
count-row (suc n) v = ap suc (count-row n v)

pub size-row : (n : ℕ) (v : Value) → size (row n v) ≡ n * size v
size-row zero v = omega arith
size-row (suc n) v = let e = size-row n v in let m : suc n * size v ≡ size v + n * size v = grind arith in omega (arith, e, m)

pub shape-row_of : (n : ℕ) (v : Value) → shape v ≡ v → shape (row n v) ≡ row n v
shape-row_of zero v e = refl
shape-row_of (suc n) v e = let r = shape-row_of n v e in cc

-- ---- a part is within its whole

pub before-within : (v : Value) (i : ℕ) → before v i + size (item v i) ≤ size v
before-within (Cell z) i = omega arith
before-within (Named p u) i = omega arith
before-within (Open p k) i = omega arith
before-within Nothing i = omega arith
before-within (Beside v rest) zero = omega arith
before-within (Beside v rest) (suc i) = omega (arith, before-within rest i)
