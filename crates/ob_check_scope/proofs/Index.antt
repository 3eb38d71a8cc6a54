-- A block's map has the place of each name.
use Rattle.std.proofs.Common.{◌≡◌, ◌⊎◌, ℕ, suc, ◌<◌, Bool, true, false, cond, List, [], ◌∷◌, ◌++◌, length, Option, Some, None, option_map, get_or, refl, sym, ◌∙◌, ap, inl, inr, arith}
use Rattle.std.specs.Str.{bytes_eq}
use Rattle.std.proofs.lemmas.Bool.{cases_Bool}
use Rattle.ob_check_scope.specs.declared.block.Declared.{Declared}
use Rattle.ob_check_scope.specs.Block.{find, place_of}
use Rattle.ob_types.proofs.PlaceMaps.{apart}

pub no_suc : (o : Option ℕ) → option_map suc o ≡ None → o ≡ None
no_suc None e = refl
no_suc (Some n) e = absurd (let k : Some (suc n) ≡ None = e in cc)

pub not_first : (b : Bool) (o : Option ℕ) → cond b (Some 0) o ≡ None → (b ≡ false) × (o ≡ None)
not_first true o e = absurd (let k : Some 0 ≡ None = e in cc)
not_first false o e = (refl, e)

pub choices : (b c : Bool) (n : ℕ) (o : Option ℕ) → (b ≡ true → c ≡ false) → cond b (Some 0) (option_map suc (cond c (Some n) o)) ≡ cond c (Some (suc n)) (cond b (Some 0) (option_map suc o))
choices true true n o h = absurd (let e : true ≡ false = h refl in cc)
choices true false n o h = refl
choices false true n o h = refl
choices false false n o h = refl

-- e is q and not d, so d is not q
pub differ : (e d q : List ℕ) → bytes_eq e d ≡ false → bytes_eq e q ≡ true → bytes_eq d q ≡ false
differ e d q n y = apart e d q n y

pub place_more : (ds : List Declared) (d : Declared) (q : List ℕ) → place_of ds d.name ≡ None → place_of (ds ++ d ∷ []) q ≡ cond (bytes_eq d.name q) (Some (length ds)) (place_of ds q)
place_more [] d q none = refl
place_more (e ∷ ds) d q none =
    let parts = not_first (bytes_eq e.name d.name) (option_map suc (place_of ds d.name)) none in
    ap (λ o. cond (bytes_eq e.name q) (Some 0) (option_map suc o)) (place_more ds d q (no_suc (place_of ds d.name) parts.1))
    ∙ choices (bytes_eq e.name q) (bytes_eq d.name q) (length ds) (place_of ds q) (λ y. differ e.name d.name q parts.0 y)

pub none_found : (ds : List Declared) (q : List ℕ) → place_of ds q ≡ None → find ds q ≡ None
none_found [] q e = refl
none_found (d ∷ ds) q e =
    let parts = not_first (bytes_eq d.name q) (option_map suc (place_of ds q)) e in
    ap (λ b. cond b (Some d.entry) (find ds q)) parts.0 ∙ none_found ds q (no_suc (place_of ds q) parts.1)

abbrev pub none_ℕ : Option ℕ
none_ℕ = None

pub some_found : (b : Bool) (o : Option ℕ) (i : ℕ) → cond b (Some 0) (option_map suc o) ≡ Some i → ((b ≡ true) × (i ≡ 0)) ⊎ ((b ≡ false) × ((k : ℕ) × (o ≡ Some k) × (i ≡ suc k)))
some_found true o i e = inl (refl, let k : Some 0 ≡ Some i = e in cc)
some_found false None i e = absurd (let k : none_ℕ ≡ Some i = e in cc)
some_found false (Some n) i e = inr (refl, (n, refl, let k : Some (suc n) ≡ Some i = e in cc))

-- what stands at the place of a name
pub found_at : (ds : List Declared) (q : List ℕ) (i : ℕ) (z : Declared) → place_of ds q ≡ Some i → (i < length ds) × (find ds q ≡ Some (get_or ds i z).entry)
found_at [] q i z e = absurd (let k : none_ℕ ≡ Some i = e in cc)
found_at (d ∷ ds) q i z e =
    elim (some_found (bytes_eq d.name q) (place_of ds q) i e) as (λ _. (i < length (d ∷ ds)) × (find (d ∷ ds) q ≡ Some (get_or (d ∷ ds) i z).entry)) [
      | inl p ↦ (rw (p.1) (omega arith), rw (p.1) (ap (λ b. cond b (Some d.entry) (find ds q)) p.0))
      | inr p ↦ let k = found_at ds q p.1.0 z p.1.1 in
          (rw (p.1.2) (let l : p.1.0 < length ds = k.0 in omega arith), rw (p.1.2) (ap (λ b. cond b (Some d.entry) (find ds q)) p.0 ∙ k.1))
    ]

pub none_placed : (ds : List Declared) (q : List ℕ) → find ds q ≡ None → place_of ds q ≡ None
none_placed [] q e = refl
none_placed (d ∷ ds) q e =
    elim (cases_Bool (bytes_eq d.name q)) as (λ _. place_of (d ∷ ds) q ≡ None) [
      | inl y ↦ absurd (let k : Some d.entry ≡ None = sym (ap (λ b. cond b (Some d.entry) (find ds q)) y) ∙ e in cc)
      | inr n ↦ ap (λ b. cond b (Some 0) (option_map suc (place_of ds q))) n ∙ ap (option_map suc) (none_placed ds q (sym (ap (λ b. cond b (Some d.entry) (find ds q)) n) ∙ e))
    ]

pub in_range : (ds : List Declared) (q : List ℕ) (i : ℕ) → place_of ds q ≡ Some i → i < length ds
in_range [] q i e = absurd (let k : none_ℕ ≡ Some i = e in cc)
in_range (d ∷ ds) q i e = (found_at (d ∷ ds) q i d e).0
