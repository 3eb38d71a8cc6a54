-- Names that are free.
use Rattle.std.proofs.Common.{◌≡◌, ℕ, zero, suc, ◌+◌, ◌^◌, ◌<◌, ◌≤◌, List, [], ◌∷◌, ◌++◌, append_assoc, length, Bool, true, false, cond, not, ◌&&◌, ◌||◌, None, decimal, refl, sym, ap, ◌∙◌, subst, arith, inl, inr, ◌⊎◌}
use Rattle.std.proofs.lemmas.Bool.{true≢false, cases_lt, cases_eq}
use Rattle.std.proofs.lemmas.Fmt.{decimal_is_IsNumeral_wide}
use Rattle.std.specs.Str.{bytes_eq}
use Rattle.std.specs.Str.Parse.{digits_value}
use Rattle.nb_doc.specs.declared.cell_ids.Namer.{Namer}
use Rattle.nb_doc.specs.declared.draft.Draft.{Draft}
use Rattle.nb_doc.specs.declared.notebook.Cell.{Cell}
use Rattle.nb_doc.specs.Ids.{is_among, name_of, is_taken, free_from, least_free, id_in, taken_after, cell_with, raised, IsSetOf}
use Rattle.nb_doc.specs.Names.{IsNamer}
use Rattle.nb_doc.proofs.Among.{same_itself, apart}

decimal_once : (j k : ℕ) → j < 2 ^ 66 → k < 2 ^ 66 → decimal j ≡ decimal k → j ≡ k
decimal_once j k hj hk e =
    let a = (decimal_is_IsNumeral_wide j (omega arith)).1 in
    let b = (decimal_is_IsNumeral_wide k (omega arith)).1 in
    sym a ∙ ap (digits_value 10) e ∙ b

name_once : (j k : ℕ) → j < 2 ^ 66 → k < 2 ^ 66 → name_of j ≡ name_of k → j ≡ k
unfolding name_of
name_once j k hj hk e = let d : decimal j ≡ decimal k = cc in decimal_once j k hj hk d

pub names_apart : (j k : ℕ) → j < k → k < 2 ^ 66 → bytes_eq (name_of k) (name_of j) ≡ false
names_apart j k h hk = apart (name_of k) (name_of j) (λ e. let same : k ≡ j = name_once k j hk (omega arith) e in omega arith)

searched : (b : Bool) (n m x : ℕ) → (b ≡ true → x ≡ m) → (b ≡ false → n ≡ m) → cond b x n ≡ m
searched true n m x f g = f refl
searched false n m x f g = g refl

not_here : (ids : List (List ℕ)) (n m : ℕ) → n ≤ m → is_taken ids n ≡ true → is_taken ids m ≡ false → n < m
not_here ids n m low h free = go (cases_eq n m)
  where
    go : (n ≡ m) ⊎ (n ≡ m → ⊥) → n < m
    go (inl e) = absurd (true≢false (sym h ∙ ap (is_taken ids) e ∙ free))
    go (inr e) = omega arith

here : (ids : List (List ℕ)) (n m : ℕ) → n ≤ m → ((j : ℕ) → n ≤ j → j < m → is_taken ids j ≡ true) → is_taken ids n ≡ false → n ≡ m
here ids n m low before h = go (cases_lt n m)
  where
    go : (n < m) ⊎ (m ≤ n) → n ≡ m
    go (inl e) = absurd (true≢false (sym (before n (omega arith) e) ∙ h))
    go (inr e) = omega arith

-- the search finds the first that is free
free_from-at : (ids : List (List ℕ)) (k n m : ℕ) → n ≤ m → m ≤ n + k → ((j : ℕ) → n ≤ j → j < m → is_taken ids j ≡ true) → is_taken ids m ≡ false → free_from ids n k ≡ m
free_from-at ids zero n m low high before free = omega arith
free_from-at ids (suc k) n m low high before free =
    searched (is_taken ids n) n m (free_from ids (n + 1) k)
    (λ h. let further = not_here ids n m low h free in free_from-at ids k (n + 1) m (omega arith) (omega arith) (λ j l u. before j (omega arith) u) free)
    (here ids n m low before)

-- ---- a namer goes on

abbrev pub at : List (List ℕ) → ℕ → Namer
at names last = record { taken = names; last = last }

-- the next name is taken
pub passes : (taken names now : List (List ℕ)) (last : ℕ) → IsNamer taken (at names last) → last + 1 < 2 ^ 66 → is_among names (name_of (last + 1)) ≡ true
    → ((id : List ℕ) → is_among now id ≡ (not (bytes_eq id (name_of (last + 1))) && is_among names id)) → length now + 1 ≡ length names → IsNamer taken (at now (last + 1))
passes taken names now last n small found members len = record {
  passed = λ k low high. go k low (cases_lt last k) high;
  ahead = λ k low high. members (name_of k) ∙ ap (λ b. not b && is_among names (name_of k)) (names_apart (last + 1) k low high) ∙ n.ahead k (omega arith) high;
  few = omega (arith, n.few);
}
  where
    go : (k : ℕ) → 1 ≤ k → (last < k) ⊎ (k ≤ last) → k ≤ last + 1 → is_taken taken k ≡ true
    go k low (inr h) high = n.passed k low h
    go k low (inl h) high = let e : k ≡ last + 1 = omega arith in ap (is_taken taken) e ∙ sym (n.ahead (last + 1) (omega arith) small) ∙ found

-- the next name is free
pub is_least : (taken names : List (List ℕ)) (last : ℕ) → IsNamer taken (at names last) → last + 1 < 2 ^ 66 → is_among names (name_of (last + 1)) ≡ false → name_of (last + 1) ≡ id_in taken None
unfolding least_free
is_least taken names last n small free =
    let found = free_from-at taken (length taken) 1 (last + 1) (omega arith) (omega (arith, n.few)) (λ j low high. n.passed j low (omega arith)) (sym (n.ahead (last + 1) (omega arith) small) ∙ free) in
    ap name_of (sym found)

or_true : (b : Bool) → (b || true) ≡ true
or_true true = refl
or_true false = refl

pub gives : (taken names now : List (List ℕ)) (last : ℕ) → IsNamer taken (at names last) → last + 1 < 2 ^ 66 → is_among names (name_of (last + 1)) ≡ false
    → ((id : List ℕ) → is_among now id ≡ (not (bytes_eq id (name_of (last + 1))) && is_among names id)) → length now ≡ length names → IsNamer (taken_after taken None) (at now (last + 1))
gives taken names now last n small free members len =
    let name = is_least taken names last n small free in
    subst (λ t. IsNamer (t ∷ taken) (at now (last + 1))) name (record {
      passed = λ k low high. go k low (cases_lt last k) high;
      ahead = λ k low high.
          members (name_of k) ∙ ap (λ b. not b && is_among names (name_of k)) (names_apart (last + 1) k low high) ∙ n.ahead k (omega arith) high
          ∙ ap (λ b. b || is_taken taken k) (sym (names_apart (last + 1) k low high));
      few = omega (arith, n.few);
    })
  where
    go : (k : ℕ) → 1 ≤ k → (last < k) ⊎ (k ≤ last) → k ≤ last + 1 → is_taken (name_of (last + 1) ∷ taken) k ≡ true
    go k low (inr h) high = ap (λ b. bytes_eq (name_of k) (name_of (last + 1)) || b) (n.passed k low h) ∙ or_true (bytes_eq (name_of k) (name_of (last + 1)))
    go k low (inl h) high = let e : k ≡ last + 1 = omega arith in ap (λ j. bytes_eq (name_of j) (name_of (last + 1)) || is_taken taken j) e ∙ ap (λ b. b || is_taken taken (last + 1)) (same_itself (name_of (last + 1)))

pub first : (names ids : List (List ℕ)) → IsSetOf names ids → IsNamer ids (at names 0)
first names ids s = record { passed = λ k low high. absurd (omega arith); ahead = λ k low high. s.same (name_of k); few = omega (arith, s.len) }

-- ---- cell by cell

pub raised_step : (front all : List Cell) (cell : Cell) (taken : List (List ℕ)) (d : Draft) (left rest : List Draft) → cell ≡ cell_with d (id_in taken d.id) → left ≡ d ∷ rest
    → front ++ raised taken left ≡ all → (front ++ cell ∷ []) ++ raised (taken_after taken d.id) rest ≡ all
raised_step front all cell taken d left rest is split h =
    append_assoc front (cell ∷ []) (raised (taken_after taken d.id) rest)
    ∙ ap (λ x. front ++ x ∷ raised (taken_after taken d.id) rest) is
    ∙ ap (λ l. front ++ raised taken l) (sym split)
    ∙ h
