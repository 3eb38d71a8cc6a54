-- Loading changes one module and its variables.
use Rattle.std.proofs.Common.{◌≡◌, ◌≢◌, ◌⊎◌, ℕ, zero, suc, ◌<◌, ◌≤◌, Bool, true, false, List, [], ◌∷◌, length, Option, Some, None, nat_lt, if◌then◌else◌, refl, sym, ap, ◌∙◌, subst, inl, inr, arith}
use Rattle.std.specs.Str.{bytes_eq}
use Rattle.std.proofs.lemmas.Slice.Eq.{bytes_eq-Decides}
use Rattle.std.proofs.lemmas.Bool.{cases_lt}
use Rattle.ob_mean.specs.Shapes.{opening_row}
use Rattle.ob_mean.specs.Values.{Value, Cell, Named, Open, Nothing, Beside, count, item, with_item, append}
use Rattle.ob_session.specs.Session.{Session, Module, name_of, find_module, place_of, with_module, installed}
use Rattle.ob_session.specs.Loads.{EachLoads}

equal_names : (a b : List ℕ) → bytes_eq a b ≡ true → a ≡ b
equal_names a b e = let d = bytes_eq-Decides a b in grind (arith, d, e)

names_equal : (a : List ℕ) → bytes_eq a a ≡ true
names_equal a = let d = bytes_eq-Decides a a in grind (arith, d)

-- ---- modules

module _ (m : Module) (name : List ℕ) where
  abbrev Found : List Module → Type 0
  Found ms = find_module (with_module ms m) name ≡ (if bytes_eq (name_of m) name then Some m else find_module ms name)

  -- the module stands where one of its name stood
  found_here : (x : Module) (ms : List Module) → bytes_eq (name_of x) (name_of m) ≡ true → (b : Bool) → (if b then Some m else find_module ms name) ≡ (if b then Some m else (if b then Some x else find_module ms name))
  found_here x ms e true = refl
  found_here x ms e false = refl

  -- a module with another name stands before it
  found_behind : (x : Module) (rest : Option Module) (before : Option Module) (b c : Bool) → (c ≡ true → b ≡ true → ⊥) → rest ≡ (if c then Some m else before) → (if b then Some x else rest) ≡ (if c then Some m else (if b then Some x else before))
  found_behind x rest before true true h e = absurd (h refl refl)
  found_behind x rest before true false h e = refl
  found_behind x rest before false c h e = e

  found_by : (x : Module) (ms : List Module) → Found ms → (b : Bool) → bytes_eq (name_of x) (name_of m) ≡ b → find_module (if b then m ∷ ms else x ∷ with_module ms m) name ≡ (if bytes_eq (name_of m) name then Some m else (if bytes_eq (name_of x) name then Some x else find_module ms name))
  found_by x ms f true e =
      let same = equal_names (name_of x) (name_of m) e in
      found_here x ms e (bytes_eq (name_of m) name)
      ∙ ap (λ n. if bytes_eq (name_of m) name then Some m else (if bytes_eq n name then Some x else find_module ms name)) (sym same)
  found_by x ms f false e =
      found_behind x (find_module (with_module ms m) name) (find_module ms name) (bytes_eq (name_of x) name) (bytes_eq (name_of m) name) (λ c b.
      let one = equal_names (name_of m) name c in
      let two = equal_names (name_of x) name b in
      let three : bytes_eq (name_of x) (name_of m) ≡ true = subst (λ n. bytes_eq n (name_of m) ≡ true) (one ∙ sym two) (names_equal (name_of m)) in
      let four : true ≡ false = sym three ∙ e in cc) f

  found_each : (ms : List Module) → Found ms
  found_each [] = refl
  found_each (x ∷ ms) = found_by x ms (found_each ms) (bytes_eq (name_of x) (name_of m)) refl

  abbrev Placed : List Module → Type 0
  Placed ms = find_module ms name ≢ None → place_of (with_module ms m) name ≡ place_of ms name

  placed_behind : (x : Module) (ms : List Module) → Placed ms → (b : Bool) → (if b then Some x else find_module ms name) ≢ None → (if b then zero else suc (place_of (with_module ms m) name)) ≡ (if b then zero else suc (place_of ms name))
  placed_behind x ms p true h = refl
  placed_behind x ms p false h = ap suc (p h)

  placed_by : (x : Module) (ms : List Module) → Placed ms → (b : Bool) → bytes_eq (name_of x) (name_of m) ≡ b → find_module (x ∷ ms) name ≢ None → place_of (if b then m ∷ ms else x ∷ with_module ms m) name ≡ place_of (x ∷ ms) name
  placed_by x ms p true e h = ap (λ n. if bytes_eq n name then zero else suc (place_of ms name)) (sym (equal_names (name_of x) (name_of m) e))
  placed_by x ms p false e h = placed_behind x ms p (bytes_eq (name_of x) name) h

  placed_each : (ms : List Module) → Placed ms
  placed_each [] h = absurd (h refl)
  placed_each (x ∷ ms) h = placed_by x ms (placed_each ms) (bytes_eq (name_of x) (name_of m)) refl h

-- where the module stands: its place before, and how many modules there are then
record Stands (m : Module) (ms : List Module) : Type 0 where
  place : place_of (with_module ms m) (name_of m) ≡ place_of ms (name_of m)
  within : place_of ms (name_of m) < length ms → length (with_module ms m) ≡ length ms
  behind : length ms ≤ place_of ms (name_of m) → (length (with_module ms m) ≡ suc (length ms)) × (place_of ms (name_of m) ≡ length ms)

stands_by : (m x : Module) (ms : List Module) → Stands m ms → (b : Bool) → bytes_eq (name_of x) (name_of m) ≡ b →
    (place_of (if b then m ∷ ms else x ∷ with_module ms m) (name_of m) ≡ (if b then zero else suc (place_of ms (name_of m))))
    × ((if b then zero else suc (place_of ms (name_of m))) < suc (length ms) → length (if b then m ∷ ms else x ∷ with_module ms m) ≡ suc (length ms))
    × (suc (length ms) ≤ (if b then zero else suc (place_of ms (name_of m))) → (length (if b then m ∷ ms else x ∷ with_module ms m) ≡ suc (suc (length ms))) × ((if b then zero else suc (place_of ms (name_of m))) ≡ suc (length ms)))
stands_by m x ms s true e = (ap (λ b. if b then zero else suc (place_of ms (name_of m))) (names_equal (name_of m)), λ lt. refl, λ le. absurd (omega (arith, le)))
stands_by m x ms s false e = (
  ap (λ b. if b then zero else suc (place_of (with_module ms m) (name_of m))) e ∙ ap suc s.place,
  λ lt. ap suc (s.within (omega (arith, lt))),
  λ le. let b = s.behind (omega (arith, le)) in (ap suc b.0, ap suc b.1),
)

stands : (m : Module) (ms : List Module) → Stands m ms
stands m [] = record {
  place = ap (λ b. if b then zero else suc zero) (names_equal (name_of m));
  within = λ lt. absurd (omega (arith, lt));
  behind = λ le. (refl, refl);
}
stands m (x ∷ ms) =
    let s = stands_by m x ms (stands m ms) (bytes_eq (name_of x) (name_of m)) refl in
    record { place = s.0; within = s.1; behind = s.2 }

-- ---- variables

count-with : (v : Value) (i : ℕ) (x : Value) → count (with_item v i x) ≡ count v
count-with (Cell z) i x = refl
count-with (Named p t) i x = refl
count-with (Open p k) i x = refl
count-with Nothing i x = refl
count-with (Beside v rest) zero x = refl
count-with (Beside v rest) (suc i) x = ap suc (count-with rest i x)

item-with : (v : Value) (i : ℕ) (x : Value) → i < count v → item (with_item v i x) i ≡ x
item-with (Cell z) i x lt = absurd (omega (arith, lt))
item-with (Named p t) i x lt = absurd (omega (arith, lt))
item-with (Open p k) i x lt = absurd (omega (arith, lt))
item-with Nothing i x lt = absurd (omega (arith, lt))
item-with (Beside v rest) zero x lt = refl
item-with (Beside v rest) (suc i) x lt = item-with rest i x (omega (arith, lt))

item-other : (v : Value) (i j : ℕ) (x : Value) → (j ≢ i) → item (with_item v i x) j ≡ item v j
item-other (Cell z) i j x h = refl
item-other (Named p t) i j x h = refl
item-other (Open p k) i j x h = refl
item-other Nothing i j x h = refl
item-other (Beside v rest) zero zero x h = absurd (h refl)
item-other (Beside v rest) zero (suc j) x h = refl
item-other (Beside v rest) (suc i) zero x h = refl
item-other (Beside v rest) (suc i) (suc j) x h = item-other rest i j x (λ e. h (ap suc e))

count-append : (v x : Value) → count (append v (Beside x Nothing)) ≡ suc (count v)
count-append (Cell z) x = refl
count-append (Named p t) x = refl
count-append (Open p k) x = refl
count-append Nothing x = refl
count-append (Beside v rest) x = ap suc (count-append rest x)

item-append : (v x : Value) → item (append v (Beside x Nothing)) (count v) ≡ x
item-append (Cell z) x = refl
item-append (Named p t) x = refl
item-append (Open p k) x = refl
item-append Nothing x = refl
item-append (Beside v rest) x = item-append rest x

item-before : (v x : Value) (i : ℕ) → i < count v → item (append v (Beside x Nothing)) i ≡ item v i
item-before (Cell z) x i lt = absurd (omega (arith, lt))
item-before (Named p t) x i lt = absurd (omega (arith, lt))
item-before (Open p k) x i lt = absurd (omega (arith, lt))
item-before Nothing x i lt = absurd (omega (arith, lt))
item-before (Beside v rest) x zero lt = refl
item-before (Beside v rest) x (suc i) lt = item-before rest x i (omega (arith, lt))

-- the store after the module's variables were made, at its place
module _ (store : Value) (place : ℕ) (x : Value) where
  record Made (b : Bool) : Type 0 where
    here : place ≤ count store → item (if b then with_item store place x else append store (Beside x Nothing)) place ≡ x
    others : place ≤ count store → (i : ℕ) → i < count store → (i ≢ place) → item (if b then with_item store place x else append store (Beside x Nothing)) i ≡ item store i
    within : place < count store → count (if b then with_item store place x else append store (Beside x Nothing)) ≡ count store
    behind : count store ≤ place → count (if b then with_item store place x else append store (Beside x Nothing)) ≡ suc (count store)

  made_by : (b : Bool) → nat_lt place (count store) ≡ b → Made b
  made_by true e =
      let lt : place < count store = grind (arith, e) in
      record {
        here = λ le. item-with store place x lt;
        others = λ le i l h. item-other store place i x h;
        within = λ l. count-with store place x;
        behind = λ le. absurd (omega (arith, le, lt));
      }
  made_by false e =
      let ge : count store ≤ place = grind (arith, e) in
      record {
        here = λ le. subst (λ k. item (append store (Beside x Nothing)) k ≡ x) (let e : count store ≡ place = omega (arith, le, ge) in e) (item-append store x);
        others = λ le i l h. item-before store x i l;
        within = λ l. absurd (omega (arith, l, ge));
        behind = λ le. count-append store x;
      }

  made : Made (nat_lt place (count store))
  made = made_by (nat_lt place (count store)) refl

place-few : (ms : List Module) (name : List ℕ) → place_of ms name ≤ length ms
place-few [] name = omega arith
place-few (x ∷ ms) name = let r = place-few ms name in by (bytes_eq (name_of x) name) r
  where
    by : (b : Bool) → place_of ms name ≤ length ms → (if b then zero else suc (place_of ms name)) ≤ suc (length ms)
    by true r = omega arith
    by false r = omega (arith, r)

whole_by : (s : Session) (m : Module) → Stands m s.modules → Made s.store (place_of s.modules (name_of m)) (opening_row m.tree.variables) (nat_lt (place_of s.modules (name_of m)) (count s.store)) → count s.store ≡ length s.modules → (place_of s.modules (name_of m) < length s.modules) ⊎ (length s.modules ≤ place_of s.modules (name_of m)) → count (installed s m).store ≡ length (installed s m).modules
whole_by s m st mk one (inl lt) = mk.within (omega (arith, lt, one)) ∙ one ∙ sym (st.within lt)
whole_by s m st mk one (inr ge) = mk.behind (omega (arith, ge, one)) ∙ ap suc one ∙ sym (st.behind ge).0

pub each_loads : EachLoads
each_loads s m one =
    let few = place-few s.modules (name_of m) in
    let st = stands m s.modules in
    let mk = made s.store (place_of s.modules (name_of m)) (opening_row m.tree.variables) in
    record {
      found = λ name. found_each m name s.modules;
      places = λ name. placed_each m name s.modules;
      zero = ap (item (installed s m).store) st.place ∙ mk.here (omega (arith, few, one));
      others = λ i lt h. mk.others (omega (arith, few, one)) i (omega (arith, lt, one)) h;
      whole = whole_by s m st mk one (cases_lt (place_of s.modules (name_of m)) (length s.modules));
    }
