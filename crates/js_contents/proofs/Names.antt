-- The name of a path: what follows its last slash.
use Rattle.std.proofs.Common.{◌≡◌, ℕ, ◌<◌, Bool, true, false, cond, suc, zero, List, [], ◌∷◌, length, drop, arith, refl, sym, ap, ◌∙◌, get_or}
use Rattle.std.specs.Prelude.{◌||◌, ◌==◌, ◌≢◌}
use Rattle.std.specs.List.{list_any}
use Rattle.std.proofs.lemmas.Bool.Decides.{nat_tests}
use Rattle.js_shelf.specs.Paths.{is_slash}
use Rattle.js_contents.specs.Places.{name_of}

any_at : (bs : List ℕ) (k : ℕ) → k < length bs → get_or bs k 0 ≡ 47 → list_any is_slash bs ≡ true
any_at [] k within slash = absurd (omega (arith, within))
any_at (b ∷ bs) zero within slash = ap (λ c. c == 47 || list_any is_slash bs) slash
any_at (b ∷ bs) (suc k) within slash =
    ap (λ t. is_slash b || t) (any_at bs k (omega (arith, within)) slash) ∙ or-true (is_slash b)
  where
    or-true : (t : Bool) → (t || true) ≡ true
    or-true true = refl
    or-true false = refl

none_any : (bs : List ℕ) → ((i : ℕ) → i < length bs → get_or bs i 0 ≢ 47) → list_any is_slash bs ≡ false
none_any [] none = refl
none_any (b ∷ bs) none =
    let first : is_slash b ≡ false = grind (arith, nat_tests, none 0 (omega arith)) in
    ap (λ t. t || list_any is_slash bs) first ∙ none_any bs (λ i within. none (suc i) (omega (arith, within)))

-- no slash
pub name_none : (path : List ℕ) → ((i : ℕ) → i < length path → get_or path i 0 ≢ 47) → path ≡ name_of path
name_none [] none = refl
name_none (b ∷ bs) none = sym (ap (λ t. cond t (name_of bs) (b ∷ bs)) (none_any (b ∷ bs) none))

-- the last slash
pub name_at : (path : List ℕ) (k : ℕ) → k < length path → get_or path k 0 ≡ 47
    → ((i : ℕ) → k < i → i < length path → get_or path i 0 ≢ 47) → drop (suc k) path ≡ name_of path
name_at [] k within slash last = absurd (omega (arith, within))
name_at (b ∷ bs) zero within slash last =
    name_none bs (λ i small. last (suc i) (omega arith) (omega (arith, small)))
    ∙ sym (ap (λ t. cond t (name_of bs) (b ∷ bs)) (any_at (b ∷ bs) zero within slash))
name_at (b ∷ bs) (suc k) within slash last =
    name_at bs k (omega (arith, within)) slash (λ i after small. last (suc i) (omega (arith, after)) (omega (arith, small)))
    ∙ sym (ap (λ t. cond t (name_of bs) (b ∷ bs)) (any_at (b ∷ bs) (suc k) within slash))
