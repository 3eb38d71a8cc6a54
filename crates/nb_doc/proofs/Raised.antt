-- The ids of a notebook that was read: where those that stand in the text are allowed and distinct, so are all.
use Rattle.std.proofs.Common.{◌≡◌, ℕ, zero, suc, ◌+◌, ◌^◌, ◌%◌, ◌<◌, ◌≤◌, List, [], ◌∷◌, ◌++◌, length, Bool, true, false, cond, not, ◌&&◌, ◌||◌, nat_lt, nat_le, codes, decimal, Option, Some, None, option_and_then, refl, sym, ap, ap₂, ◌∙◌, subst, inl, inr, ◌⊎◌, arith}
use Rattle.std.proofs.lemmas.Bool.{true≢false, lt-ltb, le-leb}
use Rattle.std.proofs.lemmas.Fmt.{decimal_by_steps_wide, length-decimal-le_wide}
use Rattle.std.proofs.lemmas.List.{length-append}
use Rattle.std.proofs.lemmas.List.Folds.{list_all-append}
use Rattle.std.specs.Char.{is_ascii_alphanumeric}
use Rattle.std.specs.List.{list_all}
use Rattle.std.specs.Str.{bytes_eq}
use Rattle.serde_json.specs.Data.{Items, no_items, item}
use Rattle.serde_json.specs.Find.{get, as_str}
use Rattle.nb_doc.specs.declared.draft.Age.{Age}
use Rattle.nb_doc.specs.declared.notebook.Cell.{Cell}
use Rattle.nb_doc.specs.Ids.{is_id_byte, is_allowed, is_among, are_distinct, name_of, is_taken, free_from, least_free}
use Rattle.nb_doc.specs.Documents.{ids}
use Rattle.nb_doc.specs.TextForms.{id_among, ids_in, AreIds}
use Rattle.nb_doc.proofs.Among.{same_itself, same_if}
use Rattle.nb_doc.proofs.Free.{names_apart}

-- ---- of one name more than there are ids, one is free

without : List ℕ → List (List ℕ) → List (List ℕ)
without id [] = []
without id (x ∷ xs) = cond (bytes_eq id x) (without id xs) (x ∷ without id xs)

among-without : (id q : List ℕ) (xs : List (List ℕ)) → bytes_eq q id ≡ false → is_among (without id xs) q ≡ is_among xs q
unfolding without
among-without id q [] h = refl
among-without id q (x ∷ xs) h = go (bytes_eq id x) refl (among-without id q xs h)
  where
    go : (b : Bool) → bytes_eq id x ≡ b → is_among (without id xs) q ≡ is_among xs q → is_among (cond b (without id xs) (x ∷ without id xs)) q ≡ (bytes_eq q x || is_among xs q)
    go true e rest = rest ∙ ap (λ b. b || is_among xs q) (sym (ap (bytes_eq q) (sym (same_if id x e)) ∙ h))
    go false e rest = ap (λ b. bytes_eq q x || b) rest

length-without-≤ : (id : List ℕ) (xs : List (List ℕ)) → length (without id xs) ≤ length xs
unfolding without
length-without-≤ id [] = omega arith
length-without-≤ id (x ∷ xs) = go (bytes_eq id x) (length-without-≤ id xs)
  where
    go : (b : Bool) → length (without id xs) ≤ length xs → length (cond b (without id xs) (x ∷ without id xs)) ≤ suc (length xs)
    go true less = omega arith
    go false less = omega arith

length-without : (id : List ℕ) (xs : List (List ℕ)) → is_among xs id ≡ true → length (without id xs) < length xs
unfolding without
length-without id [] h = cc
length-without id (x ∷ xs) h = go (bytes_eq id x) h (λ e. length-without id xs e)
  where
    go : (b : Bool) → (b || is_among xs id) ≡ true → (is_among xs id ≡ true → length (without id xs) < length xs) → length (cond b (without id xs) (x ∷ without id xs)) < suc (length xs)
    go true e less = let most = length-without-≤ id xs in omega arith
    go false e less = let one = less e in omega arith

if_taken : (taken : List (List ℕ)) (n later : ℕ) → (is_taken taken n ≡ true → is_taken taken later ≡ false) → is_taken taken (cond (is_taken taken n) later n) ≡ false
if_taken taken n later h = go (is_taken taken n) refl
  where
    go : (b : Bool) → is_taken taken n ≡ b → is_taken taken (cond b later n) ≡ false
    go true e = h e
    go false e = e

-- of k names from n on, or the one after them, one is free, where at most k ids are names from n on
free_within : (taken names : List (List ℕ)) (k n : ℕ) → length names ≤ k → n + k < 2 ^ 66 → ((j : ℕ) → n ≤ j → j < 2 ^ 66 → is_taken names j ≡ is_taken taken j) → is_taken taken (free_from taken n k) ≡ false
free_within taken [] zero n few small same = sym (same n (omega arith) (omega arith))
free_within taken (x ∷ xs) zero n few small same = absurd (omega arith)
free_within taken names (suc k) n few small same =
    if_taken taken n (free_from taken (n + 1) k)
    (λ e.
    let less : length (without (name_of n) names) < length names = length-without (name_of n) names (same n (omega arith) (omega arith) ∙ e) in
    free_within taken (without (name_of n) names) k (n + 1) (omega arith) (omega arith) (λ j low high. among-without (name_of n) (name_of j) names (names_apart n j (omega arith) high) ∙ same j (omega arith) high))

pub is_free : (taken : List (List ℕ)) → length taken + 1 < 2 ^ 66 → is_among taken (name_of (least_free taken)) ≡ false
unfolding least_free
is_free taken small = free_within taken taken (length taken) 1 (omega arith) (omega arith) (λ j low high. refl)

free_from-≤ : (taken : List (List ℕ)) (k n : ℕ) → free_from taken n k ≤ n + k
free_from-≤ taken zero n = omega arith
free_from-≤ taken (suc k) n = go (is_taken taken n) (free_from-≤ taken k (n + 1))
  where
    go : (b : Bool) → free_from taken (n + 1) k ≤ (n + 1) + k → cond b (free_from taken (n + 1) k) n ≤ n + suc k
    go true more = omega arith
    go false more = omega arith

pub least_free-≤ : (taken : List (List ℕ)) → least_free taken ≤ 1 + length taken
unfolding least_free
least_free-≤ taken = free_from-≤ taken (length taken) 1

-- ---- a name is allowed

digit_allowed : (d : ℕ) → d < 10 → is_id_byte (48 + d) ≡ true
digit_allowed d h = rw (le-leb 48 (48 + d) (omega arith), le-leb (48 + d) 57 (omega arith)) refl

digits_allowed : (n : ℕ) → n < 10 ^ 64 → list_all is_id_byte (decimal n) ≡ true
digits_allowed n h =
    decimal_by_steps_wide (λ _ ds. list_all is_id_byte ds ≡ true)
    (λ d low. ap (λ b. b && true) (digit_allowed d low))
    (λ m ds low rest. list_all-append is_id_byte ds ((48 + m % 10) ∷ []) ∙ ap₂ (λ a b. a && (b && true)) rest (digit_allowed (m % 10) (omega arith)))
    n h

pub name_allowed : (n : ℕ) → n < 2 ^ 66 → is_allowed (name_of n) ≡ true
unfolding is_allowed name_of
name_allowed n h =
    let short : length (decimal n) ≤ 20 = length-decimal-le_wide 20 n (omega arith) (omega arith) (omega arith) in
    let digits = digits_allowed n (omega arith) in
    let len : length (codes "run-" ++ decimal n) ≡ 4 + length (decimal n) = length-append (codes "run-") (decimal n) in
    rw (lt-ltb 0 (length (codes "run-" ++ decimal n)) (omega arith), le-leb (length (codes "run-" ++ decimal n)) 64 (omega arith), list_all-append is_id_byte (codes "run-") (decimal n), digits) refl

-- ---- cell by cell

-- all ids, where these are taken and those stand in the text
record AreGood (taken stand given : List (List ℕ)) : Type 0 where
  allowed : list_all is_allowed given ≡ true
  distinct : are_distinct given ≡ true
  old : (q : List ℕ) → is_among given q ≡ true → is_among taken q ≡ true → is_among stand q ≡ true

none_among : (given : List (List ℕ)) (id : List ℕ) → (is_among given id ≡ true → ⊥) → is_among given id ≡ false
none_among given id n = go (is_among given id) refl
  where
    go : (b : Bool) → is_among given id ≡ b → b ≡ false
    go true e = absurd (n e)
    go false e = refl

both : (a b : Bool) → (a && b) ≡ true → (a ≡ true) × (b ≡ true)
both true b h = (refl, h)
both false b h = cc

or_else : (a b : Bool) → (a || b) ≡ true → (a ≡ true) ⊎ (b ≡ true)
or_else true b h = inl refl
or_else false b h = inr h

or_true : (b : Bool) → (b || true) ≡ true
or_true true = refl
or_true false = refl

-- an id that stands in the text
with_own : (taken stand given : List (List ℕ)) (id : List ℕ) → is_allowed id ≡ true → is_among stand id ≡ false → is_among taken id ≡ true → AreGood taken stand given → AreGood taken (id ∷ stand) (id ∷ given)
with_own taken stand given id allowed once is_taken g = record {
  allowed = ap₂ (λ a b. a && b) allowed g.allowed;
  distinct = ap₂ (λ a b. not a && b) (none_among given id (λ e. true≢false (sym (g.old id e is_taken) ∙ once))) g.distinct;
  old = λ q among t. go q (or_else (bytes_eq q id) (is_among given q) among) t;
}
  where
    go : (q : List ℕ) → (bytes_eq q id ≡ true) ⊎ (is_among given q ≡ true) → is_among taken q ≡ true → is_among (id ∷ stand) q ≡ true
    go q (inl e) t = ap (λ b. b || is_among stand q) e
    go q (inr e) t = ap (λ b. bytes_eq q id || b) (g.old q e t) ∙ or_true (bytes_eq q id)

-- an id that is given
with_given : (taken stand given : List (List ℕ)) (id : List ℕ) → is_allowed id ≡ true → is_among taken id ≡ false → ((q : List ℕ) → is_among stand q ≡ true → is_among taken q ≡ true) → AreGood (id ∷ taken) stand given → AreGood taken stand (id ∷ given)
with_given taken stand given id allowed free below g = record {
  allowed = ap₂ (λ a b. a && b) allowed g.allowed;
  distinct = ap₂ (λ a b. not a && b) (none_among given id (λ e. true≢false (sym (below id (g.old id e (ap (λ b. b || is_among taken id) (same_itself id)))) ∙ free))) g.distinct;
  old = λ q among t. go q (or_else (bytes_eq q id) (is_among given q) among) t;
}
  where
    go : (q : List ℕ) → (bytes_eq q id ≡ true) ⊎ (is_among given q ≡ true) → is_among taken q ≡ true → is_among stand q ≡ true
    go q (inl e) t = absurd (true≢false (sym t ∙ ap (is_among taken) (same_if q id e) ∙ free))
    go q (inr e) t = g.old q e (ap (λ b. bytes_eq q id || b) t ∙ or_true (bytes_eq q id))

abbrev StandAllowed : List (List ℕ) → List (List ℕ) → Type 0
StandAllowed taken stand = (list_all is_allowed stand ≡ true) × (are_distinct stand ≡ true) × ((q : List ℕ) → is_among stand q ≡ true → is_among taken q ≡ true)

good_ids : (age : Age) (taken : List (List ℕ)) (ds : Items) (cs : List Cell) → AreIds age taken ds cs → length taken + length cs + 1 < 2 ^ 66 → StandAllowed taken (ids_in ds) → AreGood taken (ids_in ds) (ids cs)
good_ids age taken no_items [] are small s = record { allowed = refl; distinct = refl; old = λ q among t. among }
good_ids age taken no_items (c ∷ cs) are small s = absurd are
good_ids age taken (item d ds) [] are small s = absurd are
good_ids age taken (item d ds) (c ∷ cs) (inl own) small s =
    let t : StandAllowed taken (c.id ∷ ids_in ds) = subst (λ o. StandAllowed taken (id_among o (ids_in ds))) own.0 s in
    let allowed = both (is_allowed c.id) (list_all is_allowed (ids_in ds)) t.0 in
    let distinct = both (not (is_among (ids_in ds) c.id)) (are_distinct (ids_in ds)) t.1 in
    let once : is_among (ids_in ds) c.id ≡ false = none_among (ids_in ds) c.id (λ e. true≢false (sym distinct.0 ∙ ap not e)) in
    let below : (q : List ℕ) → is_among (ids_in ds) q ≡ true → is_among taken q ≡ true = λ q e. t.2 q (ap (λ b. bytes_eq q c.id || b) e ∙ or_true (bytes_eq q c.id)) in
    let rest = good_ids age taken ds cs own.1 (omega arith) (allowed.1, distinct.1, below) in
    subst (λ o. AreGood taken (id_among o (ids_in ds)) (c.id ∷ ids cs)) (sym own.0)
    (with_own taken (ids_in ds) (ids cs) c.id allowed.0 once (t.2 c.id (ap (λ b. b || is_among (ids_in ds) c.id) (same_itself c.id))) rest)
good_ids age taken (item d ds) (c ∷ cs) (inr given) small s =
    let t : StandAllowed taken (ids_in ds) = subst (λ o. StandAllowed taken (id_among (option_and_then as_str o) (ids_in ds))) given.1 s in
    let low = least_free-≤ taken in
    let allowed : is_allowed c.id ≡ true = ap is_allowed given.2 ∙ name_allowed (least_free taken) (omega arith) in
    let free : is_among taken c.id ≡ false = ap (is_among taken) given.2 ∙ is_free taken (omega arith) in
    let below : (q : List ℕ) → is_among (ids_in ds) q ≡ true → is_among (c.id ∷ taken) q ≡ true = λ q e. ap (λ b. bytes_eq q c.id || b) (t.2 q e) ∙ or_true (bytes_eq q c.id) in
    let rest = good_ids age (c.id ∷ taken) ds cs given.3 (omega arith) (t.0, t.1, below) in
    subst (λ o. AreGood taken (id_among (option_and_then as_str o) (ids_in ds)) (c.id ∷ ids cs)) (sym given.1) (with_given taken (ids_in ds) (ids cs) c.id allowed free t.2 rest)

-- ---- the notebook

longer : (o : Option (List ℕ)) (rest : List (List ℕ)) (n : ℕ) → length rest ≤ n → length (id_among o rest) ≤ suc n
longer None rest n h = omega arith
longer (Some id) rest n h = omega arith

length-ids_in : (age : Age) (taken : List (List ℕ)) (ds : Items) (cs : List Cell) → AreIds age taken ds cs → length (ids_in ds) ≤ length cs
length-ids_in age taken no_items [] are = omega arith
length-ids_in age taken no_items (c ∷ cs) are = absurd are
length-ids_in age taken (item d ds) [] are = absurd are
length-ids_in age taken (item d ds) (c ∷ cs) (inl own) = let rest = length-ids_in age taken ds cs own.1 in longer (option_and_then as_str (get (codes "id") d)) (ids_in ds) (length cs) rest
length-ids_in age taken (item d ds) (c ∷ cs) (inr given) = let rest = length-ids_in age (c.id ∷ taken) ds cs given.3 in longer (option_and_then as_str (get (codes "id") d)) (ids_in ds) (length cs) rest

-- all ids are allowed and distinct
pub ids_are_good : (age : Age) (ds : Items) (cs : List Cell) → AreIds age (ids_in ds) ds cs → length cs < 2 ^ 64 → list_all is_allowed (ids_in ds) ≡ true → are_distinct (ids_in ds) ≡ true → (list_all is_allowed (ids cs) ≡ true) × (are_distinct (ids cs) ≡ true)
ids_are_good age ds cs are small allowed distinct =
    let short = length-ids_in age (ids_in ds) ds cs are in
    let g = good_ids age (ids_in ds) ds cs are (omega arith) (allowed, distinct, λ q e. e) in
    (g.allowed, g.distinct)
