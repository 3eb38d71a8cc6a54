-- The places of names, and what stands there.
use Rattle.std.proofs.Common.{◌≡◌, ◌||◌, ℕ, suc, ◌+◌, ◌<◌, Bool, true, false, cond, List, [], ◌∷◌, ◌++◌, length, Option, Some, None, option_map, is_some, slice_get, refl, sym, ◌∙◌, ap, subst, inl, inr, arith}
use Rattle.std.specs.Str.{bytes_eq}
use Rattle.std.proofs.lemmas.Bool.{cases_Bool}
use Rattle.std.proofs.Math.ListN.{set}
use Rattle.std.specs.Cmp.Lexicographic.{bytes_decides}
use Rattle.ob_types.specs.declared.exports.Exported.{Exported}
use Rattle.ob_check_scope.specs.LoadedTree.{LoadedTree}
use Rattle.ob_check_scope.specs.Names.{place_in, is_among}
use Rattle.ob_check_scope.specs.Exports.{Modules, exported_in, names_of, module_names}
use Rattle.ob_check_scope.specs.Imports.{added}
use Rattle.ob_check_scope.proofs.Index.{no_suc, not_first, choices, differ, none_ℕ, some_found}

some_of : (b : Bool) (o : Option ℕ) → is_some (cond b (Some 0) (option_map suc o)) ≡ (b || is_some o)
some_of true o = refl
some_of false None = refl
some_of false (Some n) = refl

-- a name is among these where it has a place
pub among_placed : (ns : List (List ℕ)) (q : List ℕ) → is_some (place_in ns q) ≡ is_among ns q
among_placed [] q = refl
among_placed (n ∷ ns) q = some_of (bytes_eq n q) (place_in ns q) ∙ ap (λ x. bytes_eq n q || x) (among_placed ns q)

none_of : (o : Option ℕ) → is_some o ≡ false → o ≡ None
none_of None e = refl
none_of (Some n) e = absurd (let k : true ≡ false = e in cc)

pub not_placed : (ns : List (List ℕ)) (q : List ℕ) → is_among ns q ≡ false → place_in ns q ≡ None
not_placed ns q e = none_of (place_in ns q) (among_placed ns q ∙ e)

pub not_among : (ns : List (List ℕ)) (q : List ℕ) → place_in ns q ≡ None → is_among ns q ≡ false
not_among ns q e = sym (among_placed ns q) ∙ ap is_some e

-- the places with a new name more
pub place_more : (ns : List (List ℕ)) (n q : List ℕ) → place_in ns n ≡ None → place_in (ns ++ n ∷ []) q ≡ cond (bytes_eq n q) (Some (length ns)) (place_in ns q)
place_more [] n q none = refl
place_more (m ∷ ns) n q none =
    let parts = not_first (bytes_eq m n) (option_map suc (place_in ns n)) none in
    ap (λ o. cond (bytes_eq m q) (Some 0) (option_map suc o)) (place_more ns n q (no_suc (place_in ns n) parts.1))
    ∙ choices (bytes_eq m q) (bytes_eq n q) (length ns) (place_in ns q) (λ y. differ m n q parts.0 y)

kept : (b : Bool) (o p : Option ℕ) → (b ≡ false → p ≡ o) → cond b (Some 0) (option_map suc p) ≡ cond b (Some 0) (option_map suc o)
kept true o p h = refl
kept false o p h = ap (option_map suc) (h refl)

-- another name after them changes no place
place_other : (ns : List (List ℕ)) (n q : List ℕ) → bytes_eq n q ≡ false → place_in (ns ++ n ∷ []) q ≡ place_in ns q
place_other [] n q f = ap (λ b. cond b (Some 0) none_ℕ) f
place_other (m ∷ ns) n q f = ap (λ o. cond (bytes_eq m q) (Some 0) (option_map suc o)) (place_other ns n q f)

rest_among : (b c : Bool) → (b || c) ≡ true → b ≡ false → c ≡ true
rest_among true c e f = absurd (let k : true ≡ false = f in cc)
rest_among false c e f = e

-- nor does any name where the place is known
place_known : (ns : List (List ℕ)) (n q : List ℕ) → is_among ns q ≡ true → place_in (ns ++ n ∷ []) q ≡ place_in ns q
place_known [] n q e = absurd (let k : false ≡ true = e in cc)
place_known (m ∷ ns) n q e =
    kept (bytes_eq m q) (place_in ns q) (place_in (ns ++ n ∷ []) q) (λ f. place_known ns n q (rest_among (bytes_eq m q) (is_among ns q) e f))

-- the places with a name more that is there already
pub place_again : (ns : List (List ℕ)) (n q : List ℕ) → is_among ns n ≡ true → place_in (ns ++ n ∷ []) q ≡ place_in ns q
place_again ns n q e =
    elim (cases_Bool (bytes_eq n q)) as (λ _. place_in (ns ++ n ∷ []) q ≡ place_in ns q) [
      | inl y ↦ place_known ns n q (subst (λ r. is_among ns r ≡ true) ((bytes_decides n q).0 y) e)
      | inr f ↦ place_other ns n q f
    ]

-- ---- exports

pub none_exported : (es : List Exported) (q : List ℕ) → place_in (names_of es) q ≡ None → exported_in es q ≡ None
none_exported [] q e = refl
none_exported (d ∷ es) q e =
    let parts = not_first (bytes_eq d.name q) (option_map suc (place_in (names_of es) q)) e in
    ap (λ b. cond b (Some d.object) (exported_in es q)) parts.0
    ∙ none_exported es q (no_suc (place_in (names_of es) q) parts.1)

-- what is exported at the place of a name
pub exported_here : (es : List Exported) (q : List ℕ) (i : ℕ) → place_in (names_of es) q ≡ Some i → option_map (λ e. e.object) (slice_get es i) ≡ exported_in es q
exported_here [] q i e = absurd (let k : none_ℕ ≡ Some i = e in cc)
exported_here (d ∷ es) q i e =
    elim (some_found (bytes_eq d.name q) (place_in (names_of es) q) i e) as (λ _. option_map (λ x. x.object) (slice_get (d ∷ es) i) ≡ exported_in (d ∷ es) q) [
      | inl p ↦ rw (p.1) (sym (ap (λ b. cond b (Some d.object) (exported_in es q)) p.0))
      | inr p ↦ rw (p.1.2) (exported_here es q p.1.0 p.1.1 ∙ sym (ap (λ b. cond b (Some d.object) (exported_in es q)) p.0))
    ]

-- ---- modules

pub added_new : (ms : Modules) (m : LoadedTree) → place_in (module_names ms) m.interface.name ≡ None → added ms m ≡ ms ++ m ∷ []
added_new [] m e = refl
added_new (n ∷ ms) m e =
    let parts = not_first (bytes_eq n.interface.name m.interface.name) (option_map suc (place_in (module_names ms) m.interface.name)) e in
    ap (λ b. cond b (m ∷ ms) (n ∷ added ms m)) parts.0
    ∙ ap (λ l. n ∷ l) (added_new ms m (no_suc (place_in (module_names ms) m.interface.name) parts.1))

pub module_inside : (ms : Modules) (q : List ℕ) (i : ℕ) → place_in (module_names ms) q ≡ Some i → i < length ms
module_inside [] q i e = absurd (let k : none_ℕ ≡ Some i = e in cc)
module_inside (n ∷ ms) q i e =
    elim (some_found (bytes_eq n.interface.name q) (place_in (module_names ms) q) i e) as (λ _. i < length (n ∷ ms)) [
      | inl p ↦ rw (p.1) (omega arith)
      | inr p ↦ let l : p.1.0 < length ms = module_inside ms q p.1.0 p.1.1 in rw (p.1.2) (omega arith)
    ]

pub added_again : (ms : Modules) (m : LoadedTree) (i : ℕ) → place_in (module_names ms) m.interface.name ≡ Some i → added ms m ≡ set ms i m
added_again [] m i e = absurd (let k : none_ℕ ≡ Some i = e in cc)
added_again (n ∷ ms) m i e =
    elim (some_found (bytes_eq n.interface.name m.interface.name) (place_in (module_names ms) m.interface.name) i e) as (λ _. added (n ∷ ms) m ≡ set (n ∷ ms) i m) [
      | inl p ↦ rw (p.1) (ap (λ b. cond b (m ∷ ms) (n ∷ added ms m)) p.0)
      | inr p ↦ rw (p.1.2) (ap (λ b. cond b (m ∷ ms) (n ∷ added ms m)) p.0 ∙ ap (λ l. n ∷ l) (added_again ms m p.1.0 p.1.1))
    ]

-- ---- places counted from a number on

abbrev pub later : ℕ → Option ℕ → Option ℕ
later n None = None
later n (Some k) = Some (n + k)
