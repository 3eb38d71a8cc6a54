-- Look-ups by name, and what loading a module does to them.
use Rattle.std.proofs.Common.{◌≡◌, ◌⊎◌, ℕ, suc, ◌<◌, Bool, true, false, cond, List, [], ◌∷◌, ◌++◌, length, Option, Some, None, option_map, slice_get, Vec, refl, sym, ◌∙◌, ap, subst, inl, inr, arith}
use Rattle.std.specs.declared.hash.FoldHasher.{FoldHasher}
use Rattle.std.specs.declared.hash.BuildHasherDefault.{BuildHasherDefault}
use Rattle.std.specs.declared.alloc.Global.{Global}
use Rattle.std.specs.Cmp.Lexicographic.{bytes_decides, nat_list_eq_equiv}
use Rattle.std.specs.HashMap.{HashMap, get_by, UpdatesBy}
use Rattle.std.specs.Map.{lookup, IsKeyTest, AreApart, KeepsOthers}
use Rattle.std.specs.Str.{bytes_eq}
use Rattle.std.proofs.lemmas.Bool.{cases_Bool, cond-true, cond-false}
use Rattle.std.proofs.Math.ListN.{set}
use Rattle.ob_session.specs.Session.{Module, name_of, find_module, place_of, with_module}
use Rattle.ob_link.specs.Places.{number_in}

-- ---- what a map has after a change at one name

apart : (bs cs ks : List ℕ) → bytes_eq bs cs ≡ false → bytes_eq bs ks ≡ true → bytes_eq cs ks ≡ false
apart bs cs ks n y = nat_list_eq_equiv.symm cs ks ∙ sym (nat_list_eq_equiv.congr bs ks cs y) ∙ n

other_entries : {K X : Type 0} (eq : K → K → Bool) (test : K → Bool) (old new : List (K × X)) → KeepsOthers eq test old new → (other : K → Bool) → IsKeyTest eq other → AreApart test other → lookup other new ≡ lookup other old
unfolding KeepsOthers
other_entries eq test old new h = h

by_bytes : {W : Type 0} (f g : List ℕ → W) (bs : List ℕ) (w : W) → g bs ≡ w → ((cs : List ℕ) → bytes_eq bs cs ≡ false → g cs ≡ f cs) → (cs : List ℕ) → g cs ≡ cond (bytes_eq bs cs) w (f cs)
by_bytes f g bs w here other cs =
    elim (cases_Bool (bytes_eq bs cs)) as (λ _. g cs ≡ cond (bytes_eq bs cs) w (f cs)) [
      | inl y ↦ subst (λ l. g l ≡ w) ((bytes_decides bs cs).0 y) here ∙ sym (cond-true (bytes_eq bs cs) w (f cs) y)
      | inr n ↦ other cs n ∙ sym (cond-false (bytes_eq bs cs) w (f cs) n)
    ]

abbrev Places : Type 0
Places = HashMap (Vec ℕ Global) ℕ (BuildHasherDefault FoldHasher)

pub updated : (m n : Places) (bs : List ℕ) (w : Option ℕ) → UpdatesBy (λ x y. bytes_eq x.items y.items) (λ k. bytes_eq bs k.items) m n w → (cs : List ℕ) → get_by (λ k. bytes_eq cs k.items) n ≡ cond (bytes_eq bs cs) w (get_by (λ k. bytes_eq cs k.items) m)
updated m n bs w h = by_bytes (λ l. get_by (λ k. bytes_eq l k.items) m) (λ l. get_by (λ k. bytes_eq l k.items) n) bs w h.1
    (λ cs e. other_entries (λ x y. bytes_eq x.items y.items) (λ k. bytes_eq bs k.items) m.entries n.entries h.3 (λ k. bytes_eq cs k.items) (λ x y. nat_list_eq_equiv.congr cs x.items y.items) (λ k. apart bs cs k.items e))

-- ---- numbers

abbrev none_ℕ : Option ℕ
none_ℕ = None

no_suc : (o : Option ℕ) → option_map suc o ≡ None → o ≡ None
no_suc None e = refl
no_suc (Some n) e = absurd (let k : Some (suc n) ≡ None = e in cc)

not_first : (b : Bool) (o : Option ℕ) → cond b (Some 0) o ≡ None → (b ≡ false) × (o ≡ None)
not_first true o e = absurd (let k : Some 0 ≡ None = e in cc)
not_first false o e = (refl, e)

choices : (b c : Bool) (n : ℕ) (o : Option ℕ) → (b ≡ true → c ≡ false) → cond b (Some 0) (option_map suc (cond c (Some n) o)) ≡ cond c (Some (suc n)) (cond b (Some 0) (option_map suc o))
choices true true n o h = absurd (let e : true ≡ false = h refl in cc)
choices true false n o h = refl
choices false true n o h = refl
choices false false n o h = refl

some_found : (b : Bool) (o : Option ℕ) (i : ℕ) → cond b (Some 0) (option_map suc o) ≡ Some i → ((b ≡ true) × (i ≡ 0)) ⊎ ((b ≡ false) × ((k : ℕ) × (o ≡ Some k) × (i ≡ suc k)))
some_found true o i e = inl (refl, let k : Some 0 ≡ Some i = e in cc)
some_found false None i e = absurd (let k : none_ℕ ≡ Some i = e in cc)
some_found false (Some n) i e = inr (refl, (n, refl, let k : Some (suc n) ≡ Some i = e in cc))

-- what stands at the number of a name
pub record PlacedAt (ms : List Module) (q : List ℕ) (i : ℕ) : Type 0 where
  pub inside : i < length ms
  pub place : place_of ms q ≡ i
  pub found : slice_get ms i ≡ find_module ms q

pub placed : (ms : List Module) (q : List ℕ) (i : ℕ) → number_in ms q ≡ Some i → PlacedAt ms q i
placed [] q i e = absurd (let k : none_ℕ ≡ Some i = e in cc)
placed (m ∷ ms) q i e =
    elim (some_found (bytes_eq (name_of m) q) (number_in ms q) i e) as (λ _. PlacedAt (m ∷ ms) q i) [
      | inl p ↦ subst (PlacedAt (m ∷ ms) q) (sym p.1) (record {
        inside = omega arith;
        place = ap (λ b. cond b 0 (suc (place_of ms q))) p.0;
        found = sym (ap (λ b. cond b (Some m) (find_module ms q)) p.0);
      })
      | inr p ↦ let k = placed ms q p.1.0 p.1.1 in subst (PlacedAt (m ∷ ms) q) (sym p.1.2) (record {
        inside = omega (arith, k.inside);
        place = ap (λ b. cond b 0 (suc (place_of ms q))) p.0 ∙ ap suc k.place;
        found = k.found ∙ sym (ap (λ b. cond b (Some m) (find_module ms q)) p.0);
      })
    ]

pub unplaced : (ms : List Module) (q : List ℕ) → number_in ms q ≡ None → (place_of ms q ≡ length ms) × (find_module ms q ≡ None)
unplaced [] q e = (refl, refl)
unplaced (m ∷ ms) q e =
    let parts = not_first (bytes_eq (name_of m) q) (option_map suc (number_in ms q)) e in
    let k = unplaced ms q (no_suc (number_in ms q) parts.1) in
    (ap (λ b. cond b 0 (suc (place_of ms q))) parts.0 ∙ ap suc k.0, ap (λ b. cond b (Some m) (find_module ms q)) parts.0 ∙ k.1)

-- ---- loading

-- a new name comes last
pub with_new : (ms : List Module) (m : Module) → number_in ms (name_of m) ≡ None → with_module ms m ≡ ms ++ m ∷ []
with_new [] m e = refl
with_new (n ∷ ms) m e =
    let parts = not_first (bytes_eq (name_of n) (name_of m)) (option_map suc (number_in ms (name_of m))) e in
    ap (λ b. cond b (m ∷ ms) (n ∷ with_module ms m)) parts.0
    ∙ ap (λ l. n ∷ l) (with_new ms m (no_suc (number_in ms (name_of m)) parts.1))

pub number_more : (ms : List Module) (m : Module) (q : List ℕ) → number_in ms (name_of m) ≡ None → number_in (ms ++ m ∷ []) q ≡ cond (bytes_eq (name_of m) q) (Some (length ms)) (number_in ms q)
number_more [] m q none = refl
number_more (n ∷ ms) m q none =
    let parts = not_first (bytes_eq (name_of n) (name_of m)) (option_map suc (number_in ms (name_of m))) none in
    ap (λ o. cond (bytes_eq (name_of n) q) (Some 0) (option_map suc o)) (number_more ms m q (no_suc (number_in ms (name_of m)) parts.1))
    ∙ choices (bytes_eq (name_of n) q) (bytes_eq (name_of m) q) (length ms) (number_in ms q) (λ y. apart (name_of n) (name_of m) q parts.0 y)

-- a name that is there keeps its place
pub with_again : (ms : List Module) (m : Module) (i : ℕ) → number_in ms (name_of m) ≡ Some i → with_module ms m ≡ set ms i m
with_again [] m i e = absurd (let k : none_ℕ ≡ Some i = e in cc)
with_again (n ∷ ms) m i e =
    elim (some_found (bytes_eq (name_of n) (name_of m)) (number_in ms (name_of m)) i e) as (λ _. with_module (n ∷ ms) m ≡ set (n ∷ ms) i m) [
      | inl p ↦ rw (p.1) (ap (λ b. cond b (m ∷ ms) (n ∷ with_module ms m)) p.0)
      | inr p ↦ rw (p.1.2) (ap (λ b. cond b (m ∷ ms) (n ∷ with_module ms m)) p.0 ∙ ap (λ l. n ∷ l) (with_again ms m p.1.0 p.1.1))
    ]

pub number_again : (ms : List Module) (m : Module) (i : ℕ) (q : List ℕ) → number_in ms (name_of m) ≡ Some i → number_in (set ms i m) q ≡ number_in ms q
number_again [] m i q e = absurd (let k : none_ℕ ≡ Some i = e in cc)
number_again (n ∷ ms) m i q e =
    elim (some_found (bytes_eq (name_of n) (name_of m)) (number_in ms (name_of m)) i e) as (λ _. number_in (set (n ∷ ms) i m) q ≡ number_in (n ∷ ms) q) [
      | inl p ↦ rw (p.1) (ap (λ b. cond b (Some 0) (option_map suc (number_in ms q))) (ap (λ l. bytes_eq l q) (sym ((bytes_decides (name_of n) (name_of m)).0 p.0))))
      | inr p ↦ rw (p.1.2) (ap (λ o. cond (bytes_eq (name_of n) q) (Some 0) (option_map suc o)) (number_again ms m p.1.0 q p.1.1))
    ]
