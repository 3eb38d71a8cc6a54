-- The rows of what reaches a name are those of the definition.
use Rattle.std.proofs.Common.{◌≡◌, ◌∷◌, ℕ, zero, suc, ◌+◌, ◌-◌, ◌≤◌, Bool, true, false, ◌||◌, List, [], length, map, Option, Some, None, refl, sym, ◌∙◌, ap, arith}
use Rattle.std.specs.Prelude.{slice_index_or}
use Rattle.std.specs.List.{list_any}
use Rattle.std.specs.Str.{bytes_eq}
use Rattle.ob_session.specs.Session.{Import, Module, find_module, place_of}
use Rattle.ob_session.specs.Reaches.{any_behind, reaches}
use Rattle.ob_link.specs.Reaching.{reaches_in, reach_row, next_reach_row, reaching}
use Rattle.ob_link.proofs.Rows.{at_place, at_no_place}

by_found : (modules : List Module) (k : ℕ) (name : List ℕ) (i : Import) (o : Option Module) → find_module modules i.name ≡ o → slice_index_or (reach_row modules k name) (place_of modules i.name) false ≡ any_behind o (reaches modules k name)
by_found modules k name i None e = at_no_place (λ (m : Module). list_any (reaches modules k name) m.imports) false modules i.name e
by_found modules k name i (Some m) e = at_place (λ (m : Module). list_any (reaches modules k name) m.imports) false modules i.name m e

pub reaches_same : (modules : List Module) (k : ℕ) (name : List ℕ) (i : Import) → reaches_in modules (reach_row modules k name) name i ≡ reaches modules (suc k) name i
reaches_same modules k name i = ap (λ (b : Bool). bytes_eq i.name name || b) (by_found modules k name i (find_module modules i.name) refl)

or_false : (b : Bool) → (b || false) ≡ b
or_false true = refl
or_false false = refl

-- where nothing is known to reach the name, its own imports do
reaches_first : (modules : List Module) (name : List ℕ) (i : Import) → reaches_in modules [] name i ≡ reaches modules 0 name i
reaches_first modules name i = or_false (bytes_eq i.name name)

pub reach_zero : (modules : List Module) (name : List ℕ) → next_reach_row modules [] name ≡ reach_row modules 0 name
reach_zero modules name = ap (λ (t : Import → Bool). map (λ (m : Module). list_any t m.imports) modules) (λ x i. reaches_first modules name i x)

-- each row gives the next
pub reach_next : (modules : List Module) (k : ℕ) (name : List ℕ) → next_reach_row modules (reach_row modules k name) name ≡ reach_row modules (suc k) name
reach_next modules k name = ap (λ (t : Import → Bool). map (λ (m : Module). list_any t m.imports) modules) (λ x i. reaches_same modules k name i x)

pub reach_after : (modules : List Module) (row : List Bool) (k : ℕ) (name : List ℕ) → row ≡ reach_row modules k name → next_reach_row modules row name ≡ reach_row modules (k + 1) name
reach_after modules row k name e =
    let n : suc k ≡ k + 1 = omega arith in
    ap (λ (r : List Bool). next_reach_row modules r name) e ∙ reach_next modules k name ∙ ap (λ j. reach_row modules j name) n

-- a row that gives itself gives no other
reach_stays : (modules : List Module) (k j : ℕ) (name : List ℕ) → reach_row modules k name ≡ reach_row modules (suc k) name → reach_row modules (k + j) name ≡ reach_row modules k name
reach_stays modules k zero name e = ap (λ n. reach_row modules n name) (let n : k + 0 ≡ k = omega arith in n)
reach_stays modules k (suc j) name e =
    let n : k + suc j ≡ suc (k + j) = omega arith in
    ap (λ n. reach_row modules n name) n
    ∙ sym (reach_next modules (k + j) name)
    ∙ ap (λ (r : List Bool). next_reach_row modules r name) (reach_stays modules k j name e)
    ∙ reach_next modules k name
    ∙ sym e

pub reach_settled : (modules : List Module) (row next : List Bool) (k : ℕ) (name : List ℕ) → row ≡ reach_row modules k name → next ≡ next_reach_row modules row name → row ≡ next → k ≤ length modules → next ≡ reaching modules name
reach_settled modules row next k name e n same le =
    let there : next ≡ reach_row modules (suc k) name = n ∙ ap (λ (r : List Bool). next_reach_row modules r name) e ∙ reach_next modules k name in
    let m : k + (length modules - k) ≡ length modules = omega (arith, le) in
    sym same ∙ e ∙ sym (reach_stays modules k (length modules - k) name (sym e ∙ same ∙ there)) ∙ ap (λ j. reach_row modules j name) m

-- ---- where no module imports the name

either_false : (a b : Bool) → (a || b) ≡ false → (a ≡ false) × (b ≡ false)
either_false true b e = absurd (let k : true ≡ false = e in cc)
either_false false b e = (refl, e)

none_at : (row : List Bool) (k : ℕ) → list_any (λ b. b) row ≡ false → slice_index_or row k false ≡ false
none_at [] k e = refl
none_at (b ∷ bs) zero e = (either_false b (list_any (λ b. b) bs) e).0
none_at (b ∷ bs) (suc k) e = none_at bs k (either_false b (list_any (λ b. b) bs) e).1

none_behind : (modules : List Module) (row : List Bool) (name : List ℕ) (i : Import) → list_any (λ b. b) row ≡ false → reaches_in modules row name i ≡ reaches_in modules [] name i
none_behind modules row name i e = ap (λ (b : Bool). bytes_eq i.name name || b) (none_at row (place_of modules i.name) e)

pub reach_none : (modules : List Module) (row : List Bool) (name : List ℕ) → row ≡ reach_row modules 0 name → list_any (λ b. b) row ≡ false → row ≡ reaching modules name
reach_none modules row name e none =
    let again : next_reach_row modules row name ≡ row =
    ap (λ (t : Import → Bool). map (λ (m : Module). list_any t m.imports) modules) (λ x i. none_behind modules row name i none x)
    ∙ reach_zero modules name ∙ sym e in
    let few : 0 ≤ length modules = omega arith in
    reach_settled modules row row 0 name e (sym again) refl few
