-- What reaches a name by chains of as many imports as there are modules reaches it by chains of any length.
use Rattle.std.proofs.Common.{◌≡◌, ◌⊎◌, ⊎_elim, ℕ, zero, suc, ◌<◌, ◌≤◌, Bool, true, false, ◌||◌, List, [], ◌∷◌, length, map, Option, Some, None, refl, sym, ◌∙◌, ap, subst, inl, inr, arith}
use Rattle.std.specs.Prelude.{slice_index_or}
use Rattle.std.specs.Cmp.Lexicographic.{bytes_decides}
use Rattle.std.specs.List.{list_any}
use Rattle.std.specs.Str.{bytes_eq}
use Rattle.std.proofs.lemmas.Bool.{cases_lt}
use Rattle.ob_session.specs.Session.{Import, Module, find_module}
use Rattle.ob_session.specs.Links.{Reached, First, Behind, Through}
use Rattle.ob_session.specs.Reaches.{any_behind, reaches}
use Rattle.ob_link.specs.Reaching.{reaches_in, reach_row, next_reach_row, EachReachesExactly}
use Rattle.ob_link.proofs.Rows.{at_number}
use Rattle.ob_link.proofs.ReachRows.{reaches_same, reach_next}

-- ---- tests that hold

either_true : (a b : Bool) → (a || b) ≡ true → (a ≡ true) ⊎ (b ≡ true)
either_true true b e = inl refl
either_true false b e = inr e

first_true : (a b : Bool) → a ≡ true → (a || b) ≡ true
first_true true b e = refl
first_true false b e = absurd (let k : false ≡ true = e in cc)

second_true : (a b : Bool) → b ≡ true → (a || b) ≡ true
second_true true b e = refl
second_true false b e = e

or_mono : (a b c d : Bool) → (a ≡ true → c ≡ true) → (b ≡ true → d ≡ true) → (a || b) ≡ true → (c || d) ≡ true
or_mono true b c d h g e = first_true c d (h refl)
or_mono false b c d h g e = second_true c d (g e)

any_mono : (t u : Import → Bool) → ((i : Import) → t i ≡ true → u i ≡ true) → (is : List Import) → list_any t is ≡ true → list_any u is ≡ true
any_mono t u h [] e = e
any_mono t u h (i ∷ is) e = or_mono (t i) (list_any t is) (u i) (list_any u is) (h i) (any_mono t u h is) e

behind_mono : (o : Option Module) (t u : Import → Bool) → ((i : Import) → t i ≡ true → u i ≡ true) → any_behind o t ≡ true → any_behind o u ≡ true
behind_mono None t u h e = e
behind_mono (Some m) t u h e = any_mono t u h m.imports e

-- ---- counting modules

abbrev add_if : Bool → ℕ → ℕ
add_if true n = suc n
add_if false n = n

abbrev counted : (Module → Bool) → List Module → ℕ
counted t [] = 0
counted t (m ∷ ms) = add_if (t m) (counted t ms)

add_few : (b : Bool) (n k : ℕ) → n ≤ k → add_if b n ≤ suc k
add_few true n k le = omega (arith, le)
add_few false n k le = omega (arith, le)

counted_few : (t : Module → Bool) (ms : List Module) → counted t ms ≤ length ms
counted_few t [] = omega arith
counted_few t (m ∷ ms) = add_few (t m) (counted t ms) (length ms) (counted_few t ms)

add_mono : (a b : Bool) (n k : ℕ) → (a ≡ true → b ≡ true) → n ≤ k → add_if a n ≤ add_if b k
add_mono true true n k h le = omega (arith, le)
add_mono true false n k h le = let e : false ≡ true = h refl in absurd (cc)
add_mono false true n k h le = omega (arith, le)
add_mono false false n k h le = le

counted_mono : (t u : Module → Bool) → ((m : Module) → t m ≡ true → u m ≡ true) → (ms : List Module) → counted t ms ≤ counted u ms
counted_mono t u h [] = omega arith
counted_mono t u h (m ∷ ms) = add_mono (t m) (u m) (counted t ms) (counted u ms) (h m) (counted_mono t u h ms)

add_alike : (a b : Bool) (n k : ℕ) → (a ≡ true → b ≡ true) → n ≤ k → add_if b k ≤ add_if a n → (a ≡ b) × (k ≤ n)
add_alike true true n k h le e = (refl, omega (arith, e))
add_alike true false n k h le e = let f : false ≡ true = h refl in absurd (cc)
add_alike false true n k h le e = absurd (omega (arith, le, e))
add_alike false false n k h le e = (refl, e)

-- a row that counts no fewer is the same
alike_rows : (t u : Module → Bool) → ((m : Module) → t m ≡ true → u m ≡ true) → (ms : List Module) → counted u ms ≤ counted t ms → map t ms ≡ map u ms
alike_rows t u h [] e = refl
alike_rows t u h (m ∷ ms) e =
    let x = add_alike (t m) (u m) (counted t ms) (counted u ms) (h m) (counted_mono t u h ms) e in
    let rest : map t ms ≡ map u ms = alike_rows t u h ms x.1 in
    ap (λ (b : Bool). b ∷ map t ms) x.0 ∙ ap (λ (bs : List Bool). u m ∷ bs) rest

-- ---- chains

-- an import of this name is reached through these
abbrev Leads : List Module → List ℕ → List Import → Type 0
Leads ms name is = (i : Import) × Reached ms i is × (i.name ≡ name)

module _ (ms : List Module) (name : List ℕ) where
  abbrev flag : ℕ → Module → Bool
  flag k m = list_any (reaches ms k name) m.imports

  longer : (k : ℕ) (i : Import) → reaches ms k name i ≡ true → reaches ms (suc k) name i ≡ true
  longer zero i e = first_true (bytes_eq i.name name) (any_behind (find_module ms i.name) (reaches ms zero name)) e
  longer (suc k) i e =
      or_mono (bytes_eq i.name name) (any_behind (find_module ms i.name) (reaches ms k name)) (bytes_eq i.name name) (any_behind (find_module ms i.name) (reaches ms (suc k) name)) (λ y. y)
      (behind_mono (find_module ms i.name) (reaches ms k name) (reaches ms (suc k) name) (longer k)) e

  flag_longer : (k : ℕ) (m : Module) → flag k m ≡ true → flag (suc k) m ≡ true
  flag_longer k m e = any_mono (reaches ms k name) (reaches ms (suc k) name) (longer k) m.imports e

  -- ---- at as many imports as there are modules, one more makes no difference

  abbrev Stable : ℕ → Type 0
  Stable k = reach_row ms k name ≡ reach_row ms (suc k) name

  next_stable : (k : ℕ) → Stable k → Stable (suc k)
  next_stable k x = sym (reach_next ms k name) ∙ ap (λ (r : List Bool). next_reach_row ms r name) x ∙ reach_next ms (suc k) name

  stable_or_more : (k : ℕ) → Stable k ⊎ (counted (flag k) ms < counted (flag (suc k)) ms)
  stable_or_more k = by (cases_lt (counted (flag k) ms) (counted (flag (suc k)) ms))
    where
      by : (counted (flag k) ms < counted (flag (suc k)) ms) ⊎ (counted (flag (suc k)) ms ≤ counted (flag k) ms) → Stable k ⊎ (counted (flag k) ms < counted (flag (suc k)) ms)
      by (inl lt) = inr lt
      by (inr le) = inl (alike_rows (flag k) (flag (suc k)) (flag_longer k) ms le)

  stable_by : (k : ℕ) → Stable k ⊎ (suc k ≤ counted (flag (suc k)) ms)
  stable_by zero = by (stable_or_more zero)
    where
      by : Stable zero ⊎ (counted (flag zero) ms < counted (flag 1) ms) → Stable zero ⊎ (1 ≤ counted (flag 1) ms)
      by (inl x) = inl x
      by (inr lt) = inr (omega (arith, lt))
  stable_by (suc k) = by (stable_by k) (stable_or_more (suc k))
    where
      by : Stable k ⊎ (suc k ≤ counted (flag (suc k)) ms) → Stable (suc k) ⊎ (counted (flag (suc k)) ms < counted (flag (suc (suc k))) ms) → Stable (suc k) ⊎ (suc (suc k) ≤ counted (flag (suc (suc k))) ms)
      by (inl x) y = inl (next_stable k x)
      by (inr le) (inl x) = inl x
      by (inr le) (inr lt) = inr (omega (arith, le, lt))

  stable : Stable (length ms)
  stable = by (stable_by (length ms))
    where
      by : Stable (length ms) ⊎ (suc (length ms) ≤ counted (flag (suc (length ms))) ms) → Stable (length ms)
      by (inl x) = x
      by (inr le) = let few : counted (flag (suc (length ms))) ms ≤ length ms = counted_few (flag (suc (length ms))) ms in absurd (omega (arith, le, few))

  settled : (i : Import) → reaches ms (suc (suc (length ms))) name i ≡ reaches ms (suc (length ms)) name i
  settled i =
      sym (reaches_same ms (suc (length ms)) name i)
      ∙ ap (λ (r : List Bool). reaches_in ms r name i) (sym stable)
      ∙ reaches_same ms (length ms) name i

  -- ---- what a test finds is reached

  leads_first : (j : Import) (is : List Import) → bytes_eq j.name name ≡ true → Leads ms name (j ∷ is)
  leads_first j is e = (j, First is, (bytes_decides j.name name).0 e)

  leads_behind : (j : Import) (is : List Import) → Leads ms name is → Leads ms name (j ∷ is)
  leads_behind j is x = (x.0, Behind j is x.1, x.2)

  leads_through : (j : Import) (is : List Import) (t : Import → Bool) → ((js : List Import) → list_any t js ≡ true → Leads ms name js) → (o : Option Module) → find_module ms j.name ≡ o → any_behind o t ≡ true → Leads ms name (j ∷ is)
  leads_through j is t x None f e = absurd (let k : false ≡ true = e in cc)
  leads_through j is t x (Some m) f e = let there = x m.imports e in (there.0, Through j is m f there.1, there.2)

  one_leads : (k : ℕ) (j : Import) (is : List Import) → ((n : ℕ) → k ≡ suc n → (js : List Import) → list_any (reaches ms n name) js ≡ true → Leads ms name js) → reaches ms k name j ≡ true → Leads ms name (j ∷ is)
  one_leads zero j is x e = leads_first j is e
  one_leads (suc k) j is x e =
      ⊎_elim (λ y. leads_first j is y) (λ y. leads_through j is (reaches ms k name) (x k refl) (find_module ms j.name) refl y)
      (either_true (bytes_eq j.name name) (any_behind (find_module ms j.name) (reaches ms k name)) e)

  list_leads : (k : ℕ) → ((n : ℕ) → k ≡ suc n → (js : List Import) → list_any (reaches ms n name) js ≡ true → Leads ms name js) → (is : List Import) → list_any (reaches ms k name) is ≡ true → Leads ms name is
  list_leads k x [] e = absurd (let f : false ≡ true = e in cc)
  list_leads k x (i ∷ is) e =
      ⊎_elim (λ y. one_leads k i is x y) (λ y. leads_behind i is (list_leads k x is y))
      (either_true (reaches ms k name i) (list_any (reaches ms k name) is) e)

  leads : (k : ℕ) (is : List Import) → list_any (reaches ms k name) is ≡ true → Leads ms name is
  leads zero is e = list_leads zero (λ n z. let f : zero ≡ suc n = z in absurd (omega (arith, f))) is e
  leads (suc k) is e =
      list_leads (suc k) (λ n z js g.
      let same : n ≡ k = omega (arith, z) in
      leads k js (subst (λ h. list_any (reaches ms h name) js ≡ true) same g)) is e

  -- ---- what is reached a test finds

  found : (i : Import) (is : List Import) → Reached ms i is → i.name ≡ name → list_any (reaches ms (suc (length ms)) name) is ≡ true
  found i is (First js) e =
      first_true (reaches ms (suc (length ms)) name i) (list_any (reaches ms (suc (length ms)) name) js)
      (first_true (bytes_eq i.name name) (any_behind (find_module ms i.name) (reaches ms (length ms) name)) ((bytes_decides i.name name).1 e))
  found i is (Behind j js r) e = second_true (reaches ms (suc (length ms)) name j) (list_any (reaches ms (suc (length ms)) name) js) (found i js r e)
  found i is (Through j js m f r) e =
      first_true (reaches ms (suc (length ms)) name j) (list_any (reaches ms (suc (length ms)) name) js)
      (sym (settled j)
      ∙ second_true (bytes_eq j.name name) (any_behind (find_module ms j.name) (reaches ms (suc (length ms)) name))
      (ap (λ (o : Option Module). any_behind o (reaches ms (suc (length ms)) name)) f ∙ found i m.imports r e))

pub each_reaches : EachReachesExactly
each_reaches modules number m name e = (
  λ y. leads modules name (length modules) m.imports (sym (at_number (flag modules name (length modules)) false modules number m e) ∙ y),
  λ x.
      ap (λ (r : List Bool). slice_index_or r number false) (stable modules name)
      ∙ at_number (flag modules name (suc (length modules))) false modules number m e
      ∙ found modules name x.0 m.imports x.1 x.2,
)
