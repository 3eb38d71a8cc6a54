-- Imports link exactly where everything that is reached is loaded.
use Rattle.std.proofs.Common.{◌≡◌, ◌⊎◌, ℕ, zero, suc, ◌+◌, ◌<◌, ◌≤◌, Bool, true, false, List, [], ◌∷◌, length, Option, Some, None, is_none, cond, if◌then◌else◌, refl, sym, ap, ◌∙◌, subst, inl, inr, arith}
use Rattle.std.specs.Str.{bytes_eq}
use Rattle.std.proofs.lemmas.Slice.Eq.{bytes_eq-Decides}
use Rattle.std.proofs.lemmas.Bool.{cases_lt}
use Rattle.ob_session.specs.Session.{Import, Module, key_of, find_module, first_some, first_fault, fault_of, import_fault, link_fault}
use Rattle.ob_session.specs.Links.{Reached, First, Behind, Through, IsLoaded, EachLinksExactly}

-- ---- equal names and keys

key_same : (a b : List ℕ) → bytes_eq a b ≡ true → a ≡ b
key_same a b e = let d = bytes_eq-Decides a b in grind (arith, d, e)

same_key : (a b : List ℕ) → a ≡ b → bytes_eq a b ≡ true
same_key a b e = let d = bytes_eq-Decides a b in grind (arith, d, e)

-- ---- a fault names something that is reached and not loaded

record Fails (ms : List Module) (is : List Import) (name : List ℕ) : Type 0 where
  at : Import
  reached : Reached ms at is
  named : at.name ≡ name
  unloaded : IsLoaded ms at → ⊥

behind : (ms : List Module) (i : Import) (is : List Import) (name : List ℕ) → Fails ms is name → Fails ms (i ∷ is) name
behind ms i is name x = record { at = x.at; reached = Behind i is x.reached; named = x.named; unloaded = x.unloaded }

through : (ms : List Module) (i : Import) (is : List Import) (m : Module) (name : List ℕ) → find_module ms i.name ≡ Some m → Fails ms m.imports name → Fails ms (i ∷ is) name
through ms i is m name e x = record { at = x.at; reached = Through i is m e x.reached; named = x.named; unloaded = x.unloaded }

some_name : (a b : List ℕ) → Some a ≡ Some b → a ≡ b
some_name a b e = cc

key_fails : (ms : List Module) (i : Import) (is : List Import) (m : Module) (name : List ℕ) (deeper : Import → Option (List ℕ)) → find_module ms i.name ≡ Some m → (first_fault deeper m.imports ≡ Some name → Fails ms m.imports name) → (b : Bool) → bytes_eq (key_of m) i.key ≡ b → (if b then first_fault deeper m.imports else Some i.name) ≡ Some name → Fails ms (i ∷ is) name
key_fails ms i is m name deeper e x true k h = through ms i is m name e (x h)
key_fails ms i is m name deeper e x false k h = record {
  at = i;
  reached = First is;
  named = some_name i.name name h;
  unloaded = λ l.
      let same : Some m ≡ Some l.0 = sym e ∙ l.1 in
      let one : m ≡ l.0 = cc in
      let t : bytes_eq (key_of m) i.key ≡ true = same_key (key_of m) i.key (ap key_of one ∙ l.2) in
      let f : true ≡ false = sym t ∙ k in cc;
}

import_fails : (ms : List Module) (i : Import) (is : List Import) (name : List ℕ) (deeper : Import → Option (List ℕ)) → ((js : List Import) → first_fault deeper js ≡ Some name → Fails ms js name) → (o : Option Module) → find_module ms i.name ≡ o → fault_of o i deeper ≡ Some name → Fails ms (i ∷ is) name
import_fails ms i is name deeper x None e h = record {
  at = i;
  reached = First is;
  named = some_name i.name name h;
  unloaded = λ l. let f : None ≡ Some l.0 = sym e ∙ l.1 in cc;
}
import_fails ms i is name deeper x (Some m) e h = key_fails ms i is m name deeper e (x m.imports) (bytes_eq (key_of m) i.key) refl h

first_fails : (ms : List Module) (i : Import) (is : List Import) (name : List ℕ) (one rest : Option (List ℕ)) → (one ≡ Some name → Fails ms (i ∷ is) name) → (rest ≡ Some name → Fails ms is name) → first_some one rest ≡ Some name → Fails ms (i ∷ is) name
first_fails ms i is name None rest x y h = behind ms i is name (y h)
first_fails ms i is name (Some a) rest x y h = x h

one_fails : (ms : List Module) (k : ℕ) (i : Import) (is : List Import) (name : List ℕ) → ((j : ℕ) → k ≡ suc j → (js : List Import) → first_fault (import_fault ms j) js ≡ Some name → Fails ms js name) → import_fault ms k i ≡ Some name → Fails ms (i ∷ is) name
one_fails ms zero i is name x h = absurd (cc)
one_fails ms (suc k) i is name x h = import_fails ms i is name (import_fault ms k) (x k refl) (find_module ms i.name) refl h

list_fails : (ms : List Module) (k : ℕ) (name : List ℕ) → ((j : ℕ) → k ≡ suc j → (js : List Import) → first_fault (import_fault ms j) js ≡ Some name → Fails ms js name) → (is : List Import) → first_fault (import_fault ms k) is ≡ Some name → Fails ms is name
list_fails ms k name x [] h = absurd (cc)
list_fails ms k name x (i ∷ is) h =
    first_fails ms i is name (import_fault ms k i) (first_fault (import_fault ms k) is) (one_fails ms k i is name x) (list_fails ms k name x is) h

fails : (ms : List Module) (k : ℕ) (name : List ℕ) (is : List Import) → first_fault (import_fault ms k) is ≡ Some name → Fails ms is name
fails ms zero name is h = list_fails ms zero name (λ j e. let n : zero ≡ suc j = e in absurd (omega (arith, n))) is h
fails ms (suc k) name is h =
    list_fails ms (suc k) name (λ j e js g.
    let same : j ≡ k = omega (arith, e) in
    fails ms k name js (subst (λ n. first_fault (import_fault ms n) js ≡ Some name) same g)) is h

-- ---- the same as tests: all that chains of so many imports reach is loaded

abbrev all_pass : (Import → Bool) → List Import → Bool
all_pass t [] = true
all_pass t (i ∷ is) = cond (t i) (all_pass t is) false

abbrev is_ok : Option Module → Import → (Module → Bool) → Bool
is_ok None i t = false
is_ok (Some m) i t = cond (bytes_eq (key_of m) i.key) (t m) false

abbrev passes : List Module → ℕ → Import → Bool
passes ms zero i = true
passes ms (suc k) i = is_ok (find_module ms i.name) i (λ m. all_pass (passes ms k) m.imports)

abbrev calm : List Module → ℕ → Module → Bool
calm ms k m = all_pass (passes ms k) m.imports

none_first : (a b : Option (List ℕ)) → is_none (first_some a b) ≡ cond (is_none a) (is_none b) false
none_first None b = refl
none_first (Some a) b = refl

none_all : (f : Import → Option (List ℕ)) (is : List Import) → is_none (first_fault f is) ≡ all_pass (λ i. is_none (f i)) is
none_all f [] = refl
none_all f (i ∷ is) = none_first (f i) (first_fault f is) ∙ ap (λ b. cond (is_none (f i)) b false) (none_all f is)

none_key : (b : Bool) (x : Option (List ℕ)) (name : List ℕ) → is_none (if b then x else Some name) ≡ cond b (is_none x) false
none_key true x name = refl
none_key false x name = refl

none_of : (o : Option Module) (i : Import) (f : Import → Option (List ℕ)) → is_none (fault_of o i f) ≡ is_ok o i (λ m. all_pass (λ j. is_none (f j)) m.imports)
none_of None i f = refl
none_of (Some m) i f = none_key (bytes_eq (key_of m) i.key) (first_fault f m.imports) i.name ∙ ap (λ b. cond (bytes_eq (key_of m) i.key) b false) (none_all f m.imports)

none_is : (ms : List Module) (k : ℕ) (i : Import) → is_none (import_fault ms k i) ≡ passes ms k i
none_is ms zero i = refl
none_is ms (suc k) i =
    none_of (find_module ms i.name) i (import_fault ms k)
    ∙ ap (λ (t : Import → Bool). is_ok (find_module ms i.name) i (λ m. all_pass t m.imports)) (λ x j. none_is ms k j x)

-- ---- fewer imports in a chain, fewer faults

cond_mono : (b x y : Bool) → (x ≡ true → y ≡ true) → cond b x false ≡ true → cond b y false ≡ true
cond_mono true x y h e = h e
cond_mono false x y h e = e

both_mono : (a b x y : Bool) → (a ≡ true → b ≡ true) → (x ≡ true → y ≡ true) → cond a x false ≡ true → cond b y false ≡ true
both_mono true b x y h g e = rw (h refl) (g e)
both_mono false b x y h g e = absurd (cc)

all_mono : (t u : Import → Bool) → ((i : Import) → t i ≡ true → u i ≡ true) → (is : List Import) → all_pass t is ≡ true → all_pass u is ≡ true
all_mono t u h [] e = refl
all_mono t u h (i ∷ is) e = both_mono (t i) (u i) (all_pass t is) (all_pass u is) (h i) (all_mono t u h is) e

ok_mono : (o : Option Module) (i : Import) (t u : Module → Bool) → ((m : Module) → t m ≡ true → u m ≡ true) → is_ok o i t ≡ true → is_ok o i u ≡ true
ok_mono None i t u h e = e
ok_mono (Some m) i t u h e = cond_mono (bytes_eq (key_of m) i.key) (t m) (u m) (h m) e

fewer : (ms : List Module) (k : ℕ) (i : Import) → passes ms (suc k) i ≡ true → passes ms k i ≡ true
fewer ms zero i e = refl
fewer ms (suc k) i e = ok_mono (find_module ms i.name) i (calm ms (suc k)) (calm ms k) (λ m. all_mono (passes ms (suc k)) (passes ms k) (fewer ms k) m.imports) e

calm_fewer : (ms : List Module) (k : ℕ) (m : Module) → calm ms (suc k) m ≡ true → calm ms k m ≡ true
calm_fewer ms k m e = all_mono (passes ms (suc k)) (passes ms k) (fewer ms k) m.imports e

-- ---- counting modules: at a length of chains that is at most their number, one more makes no difference

abbrev add_if : Bool → ℕ → ℕ
add_if true n = suc n
add_if false n = n

abbrev counted : (Module → Bool) → List Module → ℕ
counted t [] = 0
counted t (m ∷ ms) = add_if (t m) (counted t ms)

abbrev Alike : (Module → Bool) → (Module → Bool) → List Module → Type 0
Alike t u [] = Unit {0}
Alike t u (m ∷ ms) = (t m ≡ u m) × Alike t u ms

add_mono : (a b : Bool) (n k : ℕ) → (a ≡ true → b ≡ true) → n ≤ k → add_if a n ≤ add_if b k
add_mono true true n k h le = omega (arith, le)
add_mono true false n k h le = let e : false ≡ true = h refl in absurd (cc)
add_mono false true n k h le = omega (arith, le)
add_mono false false n k h le = le

counted_mono : (t u : Module → Bool) → ((m : Module) → t m ≡ true → u m ≡ true) → (ms : List Module) → counted t ms ≤ counted u ms
counted_mono t u h [] = omega arith
counted_mono t u h (m ∷ ms) = add_mono (t m) (u m) (counted t ms) (counted u ms) (h m) (counted_mono t u h ms)

counted_few : (t : Module → Bool) (ms : List Module) → counted t ms ≤ length ms
counted_few t [] = omega arith
counted_few t (m ∷ ms) = let r = counted_few t ms in few (t m) r
  where
    few : (b : Bool) → counted t ms ≤ length ms → add_if b (counted t ms) ≤ suc (length ms)
    few true r = omega (arith, r)
    few false r = omega (arith, r)

add_alike : (a b : Bool) (n k : ℕ) → (a ≡ true → b ≡ true) → n ≤ k → add_if b k ≤ add_if a n → (a ≡ b) × (k ≤ n)
add_alike true true n k h le e = (refl, omega (arith, e))
add_alike true false n k h le e = let f : false ≡ true = h refl in absurd (cc)
add_alike false true n k h le e = absurd (omega (arith, le, e))
add_alike false false n k h le e = (refl, e)

counted_alike : (t u : Module → Bool) → ((m : Module) → t m ≡ true → u m ≡ true) → (ms : List Module) → counted u ms ≤ counted t ms → Alike t u ms
counted_alike t u h [] e = tt
counted_alike t u h (m ∷ ms) e =
    let x = add_alike (t m) (u m) (counted t ms) (counted u ms) (h m) (counted_mono t u h ms) e in
    (x.0, counted_alike t u h ms x.1)

-- what holds of all modules holds of one that is found
found_alike : (t u : Module → Bool) (i : Import) (ms : List Module) → Alike t u ms → is_ok (find_module ms i.name) i t ≡ is_ok (find_module ms i.name) i u
found_alike t u i [] x = refl
found_alike t u i (m ∷ ms) x = by (bytes_eq m.interface.name i.name) (found_alike t u i ms x.1)
  where
    by : (b : Bool) → is_ok (find_module ms i.name) i t ≡ is_ok (find_module ms i.name) i u → is_ok (if b then Some m else find_module ms i.name) i t ≡ is_ok (if b then Some m else find_module ms i.name) i u
    by true r = ap (λ b. cond (bytes_eq (key_of m) i.key) b false) x.0
    by false r = r

module _ (ms : List Module) where
  abbrev Stable : ℕ → Type 0
  Stable k = (i : Import) → passes ms (suc (suc k)) i ≡ passes ms (suc k) i

  alike_stable : (k : ℕ) → Alike (calm ms (suc k)) (calm ms k) ms → Stable k
  alike_stable k x i = found_alike (calm ms (suc k)) (calm ms k) i ms x

  next_stable : (k : ℕ) → Stable k → Stable (suc k)
  next_stable k x i = ap (λ (t : Import → Bool). is_ok (find_module ms i.name) i (λ m. all_pass t m.imports)) (λ y j. x j y)

  fewer_or_stable : (k : ℕ) (a b : ℕ) → counted (calm ms k) ms ≡ a → counted (calm ms (suc k)) ms ≡ b → (b < a) ⊎ (a ≤ b) → Stable k ⊎ (b < a)
  fewer_or_stable k a b e h (inl lt) = inr lt
  fewer_or_stable k a b e h (inr le) = inl (alike_stable k (counted_alike (calm ms (suc k)) (calm ms k) (calm_fewer ms k) ms (omega (arith, e, h, le))))

  stable_by : (k : ℕ) → Stable k ⊎ (counted (calm ms (suc k)) ms + suc k ≤ length ms)
  stable_by zero = by (fewer_or_stable zero (counted (calm ms zero) ms) (counted (calm ms 1) ms) refl refl (cases_lt (counted (calm ms 1) ms) (counted (calm ms zero) ms)))
    where
      by : Stable zero ⊎ (counted (calm ms 1) ms < counted (calm ms zero) ms) → Stable zero ⊎ (counted (calm ms 1) ms + 1 ≤ length ms)
      by (inl x) = inl x
      by (inr lt) = let f = counted_few (calm ms zero) ms in inr (omega (arith, f, lt))
  stable_by (suc k) = by (stable_by k) (fewer_or_stable (suc k) (counted (calm ms (suc k)) ms) (counted (calm ms (suc (suc k))) ms) refl refl (cases_lt (counted (calm ms (suc (suc k))) ms) (counted (calm ms (suc k)) ms)))
    where
      by : Stable k ⊎ (counted (calm ms (suc k)) ms + suc k ≤ length ms) → Stable (suc k) ⊎ (counted (calm ms (suc (suc k))) ms < counted (calm ms (suc k)) ms) → Stable (suc k) ⊎ (counted (calm ms (suc (suc k))) ms + suc (suc k) ≤ length ms)
      by (inl x) y = inl (next_stable k x)
      by (inr le) (inl x) = inl x
      by (inr le) (inr lt) = inr (omega (arith, le, lt))

  stable : Stable (length ms)
  stable = by (stable_by (length ms))
    where
      by : Stable (length ms) ⊎ (counted (calm ms (suc (length ms))) ms + suc (length ms) ≤ length ms) → Stable (length ms)
      by (inl x) = x
      by (inr le) = absurd (omega (arith, le))

  stays_stable : (j : ℕ) → Stable (length ms + j)
  stays_stable zero = subst Stable (let e : length ms ≡ length ms + 0 = omega arith in e) stable
  stays_stable (suc j) = subst Stable (let e : suc (length ms + j) ≡ length ms + suc j = omega arith in e) (next_stable (length ms + j) (stays_stable j))

  -- what links in chains of one import more than there are modules links in all
  deeper : (j : ℕ) (i : Import) → passes ms (suc (length ms)) i ≡ true → passes ms (suc (length ms + j)) i ≡ true
  deeper zero i e = subst (λ n. passes ms (suc n) i ≡ true) (let e : length ms ≡ length ms + 0 = omega arith in e) e
  deeper (suc j) i e = subst (λ n. passes ms n i ≡ true) (let e : suc (suc (length ms + j)) ≡ suc (length ms + suc j) = omega arith in e) (stays_stable j i ∙ deeper j i e)

  less : (k j : ℕ) (i : Import) → passes ms (k + j) i ≡ true → passes ms k i ≡ true
  less k zero i e = subst (λ n. passes ms n i ≡ true) (let e : k + 0 ≡ k = omega arith in e) e
  less k (suc j) i e = less k j i (fewer ms (k + j) i (subst (λ n. passes ms n i ≡ true) (let e : k + suc j ≡ suc (k + j) = omega arith in e) e))

  at_each : (k : ℕ) (i : Import) → passes ms (suc (length ms)) i ≡ true → passes ms k i ≡ true
  at_each k i e = less k (suc (length ms)) i (subst (λ n. passes ms n i ≡ true) (let e : suc (length ms + k) ≡ k + suc (length ms) = omega arith in e) (deeper k i e))

  -- ---- what is reached

  loaded_by : (i : Import) (o : Option Module) → find_module ms i.name ≡ o → is_ok o i (calm ms 0) ≡ true → IsLoaded ms i
  loaded_by i None e h = absurd (cc)
  loaded_by i (Some m) e h = (m, e, key_same (key_of m) i.key (by (bytes_eq (key_of m) i.key) (calm ms 0 m) h))
    where
      by : (b x : Bool) → cond b x false ≡ true → b ≡ true
      by true x g = refl
      by false x g = g

  cond_first : (a b : Bool) → cond a b false ≡ true → a ≡ true
  cond_first true b e = refl
  cond_first false b e = e

  cond_second : (a b : Bool) → cond a b false ≡ true → b ≡ true
  cond_second true b e = e
  cond_second false b e = absurd (cc)

  below : (k : ℕ) (j : Import) (m : Module) (o : Option Module) → o ≡ Some m → is_ok o j (calm ms k) ≡ true → all_pass (passes ms k) m.imports ≡ true
  below k j m o e h = cond_second (bytes_eq (key_of m) j.key) (calm ms k m) (subst (λ o. is_ok o j (calm ms k) ≡ true) e h)

  reached_loaded : (i : Import) (is : List Import) → Reached ms i is → ((k : ℕ) → all_pass (passes ms k) is ≡ true) → IsLoaded ms i
  reached_loaded i is (First js) x = loaded_by i (find_module ms i.name) refl (cond_first (passes ms 1 i) (all_pass (passes ms 1) js) (x 1))
  reached_loaded i is (Behind j js r) x = reached_loaded i js r (λ k. cond_second (passes ms k j) (all_pass (passes ms k) js) (x k))
  reached_loaded i is (Through j js m e r) x = reached_loaded i m.imports r (λ k. below k j m (find_module ms j.name) e (cond_first (passes ms (suc k) j) (all_pass (passes ms (suc k)) js) (x (suc k))))

  linked_loaded : (is : List Import) → link_fault ms is ≡ None → (i : Import) → Reached ms i is → IsLoaded ms i
  linked_loaded is e i r =
      let t : all_pass (λ j. is_none (import_fault ms (suc (length ms)) j)) is ≡ true = sym (none_all (import_fault ms (suc (length ms))) is) ∙ ap is_none e in
      let u : all_pass (passes ms (suc (length ms))) is ≡ true = all_mono (λ j. is_none (import_fault ms (suc (length ms)) j)) (passes ms (suc (length ms))) (λ j h. sym (none_is ms (suc (length ms)) j) ∙ h) is t in
      reached_loaded i is r (λ k. all_mono (passes ms (suc (length ms))) (passes ms k) (at_each k) is u)

  loaded_linked : (is : List Import) → ((i : Import) → Reached ms i is → IsLoaded ms i) → (o : Option (List ℕ)) → link_fault ms is ≡ o → o ≡ None
  loaded_linked is x None e = refl
  loaded_linked is x (Some name) e = let f = fails ms (suc (length ms)) name is e in absurd (f.unloaded (x f.at f.reached))

pub each_links : EachLinksExactly
each_links ms is = record {
  linked = (linked_loaded ms is, λ x. loaded_linked ms is x (link_fault ms is) refl);
  fault = λ name e. let f = fails ms (suc (length ms)) name is e in (f.at, f.reached, f.named, f.unloaded);
}
