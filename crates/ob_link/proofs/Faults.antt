-- The rows of faults are those that linking asks for.
use Rattle.std.proofs.Common.{◌≡◌, ℕ, zero, suc, ◌+◌, ◌-◌, ◌≤◌, Bool, true, false, ◌&&◌, is_none, cond, List, [], ◌∷◌, length, map, Option, Some, None, refl, sym, ◌∙◌, ap, arith}
use Rattle.std.specs.Prelude.{slice_index_or}
use Rattle.std.specs.Str.{bytes_eq}
use Rattle.ob_session.specs.Session.{Import, Module, key_of, find_module, place_of, first_some, first_fault, fault_of, import_fault, link_fault}
use Rattle.ob_link.proofs.Rows.{at_place}
use Rattle.ob_link.specs.Faults.{fault_row, fault_by, fault_in, next_row, all_none}
use Rattle.ob_link.specs.Runs.{may_run}

none_first : (is : List Import) → first_fault (λ i. None) is ≡ None
none_first [] = refl
none_first (i ∷ is) = none_first is

nothing_behind : (modules ms : List Module) → map (λ (m : Module). first_fault (import_fault modules 0) m.imports) ms ≡ map (λ (m : Module). None) ms
nothing_behind modules [] = refl
nothing_behind modules (m ∷ ms) = let a = none_first m.imports in let b = nothing_behind modules ms in cc

-- the first row has no fault
pub row_zero : (modules : List Module) → fault_row modules 0 ≡ map (λ (m : Module). None) modules
row_zero modules = nothing_behind modules modules

first_same : (f g : Import → Option (List ℕ)) (is : List Import) → ((i : Import) → f i ≡ g i) → first_fault f is ≡ first_fault g is
first_same f g [] h = refl
first_same f g (i ∷ is) h = let a = h i in let b = first_same f g is h in cc

by_found : (modules : List Module) (k : ℕ) (i : Import) (o : Option Module) → find_module modules i.name ≡ o → fault_by o i (slice_index_or (fault_row modules k) (place_of modules i.name) None) ≡ fault_of o i (import_fault modules k)
by_found modules k i None e = refl
by_found modules k i (Some m) e =
    ap (λ x. cond (bytes_eq (key_of m) i.key) x (Some i.name)) (at_place (λ (n : Module). first_fault (import_fault modules k) n.imports) None modules i.name m e)

pub fault_same : (modules : List Module) (k : ℕ) (i : Import) → fault_in modules (fault_row modules k) i ≡ import_fault modules (suc k) i
fault_same modules k i = by_found modules k i (find_module modules i.name) refl

next_same : (modules : List Module) (k : ℕ) (ms : List Module) → map (λ (m : Module). first_fault (fault_in modules (fault_row modules k)) m.imports) ms ≡ map (λ (m : Module). first_fault (import_fault modules (suc k)) m.imports) ms
next_same modules k [] = refl
next_same modules k (m ∷ ms) =
    let a = first_same (fault_in modules (fault_row modules k)) (import_fault modules (suc k)) m.imports (fault_same modules k) in
    let b = next_same modules k ms in cc

-- each row gives the next
pub row_next : (modules : List Module) (k : ℕ) → next_row modules (fault_row modules k) ≡ fault_row modules (suc k)
row_next modules k = next_same modules k modules

-- and the row of chains as long as there are modules, what linking asks for
pub row_links : (modules : List Module) (imports : List Import) → first_fault (fault_in modules (fault_row modules (length modules))) imports ≡ link_fault modules imports
row_links modules imports = first_same (fault_in modules (fault_row modules (length modules))) (import_fault modules (suc (length modules))) imports (fault_same modules (length modules))

pub row_after : (modules : List Module) (row : List (Option (List ℕ))) (k : ℕ) → row ≡ fault_row modules k → next_row modules row ≡ fault_row modules (k + 1)
row_after modules row k e =
    let n : suc k ≡ k + 1 = omega arith in
    ap (next_row modules) e ∙ row_next modules k ∙ ap (fault_row modules) n

-- a row that gives itself gives no other
row_stays : (modules : List Module) (k j : ℕ) → fault_row modules k ≡ fault_row modules (suc k) → fault_row modules (k + j) ≡ fault_row modules k
row_stays modules k zero e = ap (fault_row modules) (let n : k + 0 ≡ k = omega arith in n)
row_stays modules k (suc j) e =
    let n : k + suc j ≡ suc (k + j) = omega arith in
    ap (fault_row modules) n
    ∙ sym (row_next modules (k + j))
    ∙ ap (next_row modules) (row_stays modules k j e)
    ∙ row_next modules k
    ∙ sym e

pub row_settled : (modules : List Module) (row next : List (Option (List ℕ))) (k : ℕ) → row ≡ fault_row modules k → next ≡ next_row modules row → row ≡ next → k ≤ length modules → next ≡ fault_row modules (length modules)
row_settled modules row next k e n same le =
    let there : next ≡ fault_row modules (suc k) = n ∙ ap (next_row modules) e ∙ row_next modules k in
    let m : k + (length modules - k) ≡ length modules = omega (arith, le) in
    sym same ∙ e ∙ sym (row_stays modules k (length modules - k) (sym e ∙ same ∙ there)) ∙ ap (fault_row modules) m

-- ---- where no import has a fault of its own

pub both_true : (a b : Bool) → (a && b) ≡ true → (a ≡ true) × (b ≡ true)
both_true true b e = (refl, e)
both_true false b e = absurd (let k : false ≡ true = e in cc)

pub no_fault : (fault : Option (List ℕ)) → is_none fault ≡ true → fault ≡ None
no_fault None e = refl
no_fault (Some name) e = absurd (let k : false ≡ true = e in cc)

pub none_rows : (F : Module → Option (List ℕ)) (ms : List Module) → all_none (map F ms) ≡ true → map F ms ≡ map (λ (m : Module). None) ms
none_rows F [] e = refl
none_rows F (m ∷ ms) e =
    let both = both_true (is_none (F m)) (all_none (map F ms)) e in
    let a = no_fault (F m) both.0 in
    let b = none_rows F ms both.1 in cc

none_at : (ms : List Module) (k : ℕ) → slice_index_or (map (λ (m : Module). None) ms) k (let none : Option (List ℕ) = None in none) ≡ None
none_at [] k = refl
none_at (m ∷ ms) zero = refl
none_at (m ∷ ms) (suc k) = none_at ms k

nothing_known : (modules : List Module) (i : Import) → fault_in modules [] i ≡ fault_in modules (fault_row modules 0) i
nothing_known modules i =
    ap (fault_by (find_module modules i.name) i)
    (sym (ap (λ (row : List (Option (List ℕ))). slice_index_or row (place_of modules i.name) None) (row_zero modules) ∙ none_at modules (place_of modules i.name)))

pub first_row : (modules : List Module) → next_row modules [] ≡ fault_row modules 1
first_row modules = ap (λ (t : Import → Option (List ℕ)). map (λ (m : Module). first_fault t m.imports) modules) (λ x i. nothing_known modules i x) ∙ row_next modules 0

-- a row without a fault is the last
pub row_none : (modules : List Module) (row : List (Option (List ℕ))) → row ≡ next_row modules [] → all_none row ≡ true → row ≡ fault_row modules (length modules)
row_none modules row n e =
    let one : row ≡ fault_row modules 1 = n ∙ first_row modules in
    let none : row ≡ fault_row modules 0 =
    one ∙ none_rows (λ (m : Module). first_fault (import_fault modules 1) m.imports) modules (sym (ap all_none one) ∙ e) ∙ sym (row_zero modules) in
    let same : fault_row modules 0 ≡ fault_row modules 1 = sym none ∙ one in
    let k : 0 + length modules ≡ length modules = omega arith in
    none ∙ sym (row_stays modules 0 (length modules) same) ∙ ap (fault_row modules) k

-- ---- and then each module may run

pub zero_first : (modules : List Module) (is : List Import) → first_fault (import_fault modules 0) is ≡ None
zero_first modules [] = refl
zero_first modules (i ∷ is) = zero_first modules is

by_key : (b : Bool) (modules : List Module) (m : Module) (i : Import) (f : Import → Option (List ℕ)) → cond b (first_fault f m.imports) (Some i.name) ≡ None → cond b (first_fault (import_fault modules 0) m.imports) (Some i.name) ≡ None
by_key true modules m i f e = zero_first modules m.imports
by_key false modules m i f e = e

by_module : (o : Option Module) (modules : List Module) (i : Import) (f : Import → Option (List ℕ)) → fault_of o i f ≡ None → fault_of o i (import_fault modules 0) ≡ None
by_module None modules i f e = e
by_module (Some m) modules i f e = by_key (bytes_eq (key_of m) i.key) modules m i f e

import_none : (modules : List Module) (k : ℕ) (i : Import) → import_fault modules (suc k) i ≡ None → import_fault modules 1 i ≡ None
import_none modules k i e = by_module (find_module modules i.name) modules i (import_fault modules k) e

pub some_none : (a b : Option (List ℕ)) → first_some a b ≡ None → (a ≡ None) × (b ≡ None)
some_none None b e = (refl, e)
some_none (Some x) b e = absurd (let k : Some x ≡ None = e in cc)

pub firsts_none : (modules : List Module) (k : ℕ) (is : List Import) → first_fault (import_fault modules (suc k)) is ≡ None → first_fault (import_fault modules 1) is ≡ None
firsts_none modules k [] e = refl
firsts_none modules k (i ∷ is) e =
    let both = some_none (import_fault modules (suc k) i) (first_fault (import_fault modules (suc k)) is) e in
    let a = import_none modules k i both.0 in
    let b = firsts_none modules k is both.1 in
    ap (λ (o : Option (List ℕ)). first_some o (first_fault (import_fault modules 1) is)) a ∙ b

pub none_first_row : (modules : List Module) (k : ℕ) (ms : List Module) → all_none (map (λ (m : Module). first_fault (import_fault modules (suc k)) m.imports) ms) ≡ true → map (λ (m : Module). first_fault (import_fault modules 1) m.imports) ms ≡ map (λ (m : Module). None) ms
none_first_row modules k [] e = refl
none_first_row modules k (m ∷ ms) e =
    let both = both_true (is_none (first_fault (import_fault modules (suc k)) m.imports)) (all_none (map (λ (n : Module). first_fault (import_fault modules (suc k)) n.imports) ms)) e in
    let a = firsts_none modules k m.imports (no_fault (first_fault (import_fault modules (suc k)) m.imports) both.0) in
    let b = none_first_row modules k ms both.1 in cc

-- no fault behind any module at the last row, nor at the next
next_none : (modules : List Module) (k : ℕ) → all_none (fault_row modules (suc k)) ≡ true → fault_row modules (suc (suc k)) ≡ map (λ (m : Module). None) modules
next_none modules k e =
    let none : fault_row modules (suc k) ≡ fault_row modules 0 =
    none_rows (λ (m : Module). first_fault (import_fault modules (suc k)) m.imports) modules e ∙ sym (row_zero modules) in
    sym (row_next modules (suc k)) ∙ ap (next_row modules) none ∙ row_next modules 0 ∙ none_first_row modules k modules e

flags_none : (F : Module → Option (List ℕ)) (ms : List Module) → map F ms ≡ map (λ (m : Module). None) ms → map (λ (m : Module). is_none (F m)) ms ≡ map (λ (m : Module). true) ms
flags_none F [] e = refl
flags_none F (m ∷ ms) e =
    let a : F m ≡ None = cc in
    let b : map F ms ≡ map (λ (n : Module). None) ms = cc in
    let c = flags_none F ms b in
    let d : is_none (F m) ≡ true = ap is_none a in cc

pub all_link : (modules : List Module) → all_none (fault_row modules (length modules)) ≡ true → may_run modules ≡ map (λ (m : Module). true) modules
all_link [] e = refl
all_link (m ∷ ms) e = flags_none (λ (n : Module). link_fault (m ∷ ms) n.imports) (m ∷ ms) (next_none (m ∷ ms) (length ms) e)
