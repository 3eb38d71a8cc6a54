-- A row of variables with others in a place, or after the last: its shape and its cells.
use Rattle.std.proofs.Common.{◌≡◌, ℕ, zero, suc, ◌+◌, ◌<◌, ◌≤◌, ℤ, Bool, true, false, List, [], ◌++◌, length, take, drop, nat_lt, if◌then◌else◌, refl, sym, ap, ◌∙◌, arith, append-nil}
use Rattle.std.proofs.lemmas.List.{take_all, drop_all, take_at}
use Rattle.std.proofs.lemmas.Bool.Decides.{nat_tests}
use Rattle.std.proofs.Math.Seq.{drop-append-add, drop-append_seam}
use Rattle.ob_mean.specs.Values.{Value, Cell, Named, Open, Nothing, Beside, count, size, item, before, with_item, append, shape, image}
use Rattle.ob_session.specs.Session.{with_variables}
use Rattle.ob_gen.proofs.machine.Store.{IsRow, length-image, count-shape, size-shape, item-shape, before-shape, shape-append, item_slice, grows}

-- ---- after the last item of a row

before-past : (v : Value) (i : ℕ) → IsRow v → count v ≤ i → before v i ≡ size v
before-past (Cell z) i row le = absurd row
before-past (Named p t) i row le = absurd row
before-past (Open p k) i row le = absurd row
before-past Nothing i row le = refl
before-past (Beside v rest) zero row le = absurd (omega arith)
before-past (Beside v rest) (suc i) row le = omega (arith, before-past rest i row (omega arith))

item-past : (v : Value) (i : ℕ) → count v ≤ i → item v i ≡ Nothing
item-past (Cell z) i le = refl
item-past (Named p t) i le = refl
item-past (Open p k) i le = refl
item-past Nothing i le = refl
item-past (Beside v rest) zero le = absurd (omega arith)
item-past (Beside v rest) (suc i) le = item-past rest i (omega arith)

-- ---- shapes

shape-with : (v : Value) (i : ℕ) (x : Value) → shape (with_item v i x) ≡ with_item (shape v) i (shape x)
shape-with (Cell z) i x = refl
shape-with (Named p t) i x = refl
shape-with (Open p k) i x = refl
shape-with Nothing i x = refl
shape-with (Beside v rest) zero x = refl
shape-with (Beside v rest) (suc i) x = ap (Beside (shape v)) (shape-with rest i x)

shape_made : (s x : Value) (place : ℕ) (b : Bool) → shape (if b then with_item s place x else append s (Beside x Nothing)) ≡ (if b then with_item (shape s) place (shape x) else append (shape s) (Beside (shape x) Nothing))
shape_made s x place true = shape-with s place x
shape_made s x place false = shape-append s (Beside x Nothing)

pub shape-with_variables : (s x : Value) (place : ℕ) → shape (with_variables s place x) ≡ with_variables (shape s) place (shape x)
shape-with_variables s x place =
    shape_made s x place (nat_lt place (count s))
    ∙ ap (λ n. if nat_lt place n then with_item (shape s) place (shape x) else append (shape s) (Beside (shape x) Nothing)) (sym (count-shape s))

-- ---- cells

-- the cells of a row with other variables in a place
abbrev pub cells_with : Value → ℕ → Value → List ℤ → List ℤ
cells_with s place x cells = take (before s place) cells ++ (image x ++ drop (before s place + size (item s place)) cells)

image_within : (s x : Value) (place : ℕ) → place < count s → image (with_item s place x) ≡ cells_with s place x (image s)
image_within s x place lt =
    let sl = item_slice s place lt in
    let m = image (item s place) in
    let past : before s place + size (item s place) ≡ length sl.pre + length m = omega (arith, sl.far, length-image (item s place)) in
    let front : take (before s place) (image s) ≡ sl.pre = ap (take (before s place)) sl.stands ∙ take_at sl.pre (m ++ sl.post) (before s place) sl.far in
    let back : drop (before s place + size (item s place)) (image s) ≡ sl.post =
    ap (λ k. drop k (image s)) past
    ∙ ap (drop (length sl.pre + length m)) sl.stands
    ∙ drop-append-add sl.pre (m ++ sl.post) (length m)
    ∙ drop-append_seam m sl.post in
    sl.changed x
    ∙ ap (λ l. l ++ (image x ++ sl.post)) (sym front)
    ∙ ap (λ l. take (before s place) (image s) ++ (image x ++ l)) (sym back)

image_past : (s x : Value) (place : ℕ) → IsRow s → count s ≤ place → image (append s (Beside x Nothing)) ≡ cells_with s place x (image s)
image_past s x place row le =
    let far : before s place + size (item s place) ≡ size s = omega (arith, before-past s place row le, ap size (item-past s place le)) in
    let front : take (before s place) (image s) ≡ image s =
    ap (λ k. take k (image s)) (before-past s place row le) ∙ take_all (size s) (image s) (omega (arith, length-image s)) in
    let back : drop (before s place + size (item s place)) (image s) ≡ [] =
    ap (λ k. drop k (image s)) far ∙ drop_all (size s) (image s) (omega (arith, length-image s)) in
    grows s x row
    ∙ ap (λ l. image s ++ l) (sym (append-nil (image x)))
    ∙ ap (λ l. l ++ (image x ++ [])) (sym front)
    ∙ ap (λ l. take (before s place) (image s) ++ (image x ++ l)) (sym back)

image_made : (s x : Value) (place : ℕ) → IsRow s → (b : Bool) → nat_lt place (count s) ≡ b → image (if b then with_item s place x else append s (Beside x Nothing)) ≡ cells_with s place x (image s)
image_made s x place row true e = image_within s x place (grind (arith, e))
image_made s x place row false e = image_past s x place row (grind (arith, e))

pub image-with_variables : (s x : Value) (place : ℕ) → IsRow s → image (with_variables s place x) ≡ cells_with s place x (image s)
image-with_variables s x place row = image_made s x place row (nat_lt place (count s)) refl

-- only the shape of the row matters
pub cells-with : (s t x : Value) (place : ℕ) (cells : List ℤ) → shape s ≡ shape t → cells_with s place x cells ≡ cells_with t place x cells
cells-with s t x place cells same =
    let pre : before s place ≡ before t place = sym (before-shape s place) ∙ ap (λ v. before v place) same ∙ before-shape t place in
    let many : size (item s place) ≡ size (item t place) =
    sym (size-shape (item s place))
    ∙ ap size (sym (item-shape s place) ∙ ap (λ v. item v place) same ∙ item-shape t place)
    ∙ size-shape (item t place) in
    ap (λ k. take k cells ++ (image x ++ drop (k + size (item s place)) cells)) pre
    ∙ ap (λ k. take (before t place) cells ++ (image x ++ drop (before t place + k) cells)) many

-- ---- where it stands

pub with-first : (r rest x : Value) → with_variables (Beside r rest) zero x ≡ Beside x rest
with-first r rest x =
    let within : nat_lt zero (suc (count rest)) ≡ true = grind (arith, nat_tests) in
    ap (λ b. if b then Beside x rest else append (Beside r rest) (Beside x Nothing)) within

with_behind : (r rest x : Value) (place : ℕ) (b : Bool) → (if b then Beside r (with_item rest place x) else Beside r (append rest (Beside x Nothing))) ≡ Beside r (if b then with_item rest place x else append rest (Beside x Nothing))
with_behind r rest x place true = refl
with_behind r rest x place false = refl

pub with-behind : (r rest x : Value) (place : ℕ) → with_variables (Beside r rest) (suc place) x ≡ Beside r (with_variables rest place x)
with-behind r rest x place =
    let same : nat_lt (suc place) (suc (count rest)) ≡ nat_lt place (count rest) = grind (arith, nat_tests) in
    ap (λ b. if b then Beside r (with_item rest place x) else Beside r (append rest (Beside x Nothing))) same
    ∙ with_behind r rest x place (nat_lt place (count rest))
