-- A module of a new name that links, after modules that all link.
use Rattle.std.proofs.Common.{◌≡◌, ℕ, Bool, true, false, ◌&&◌, is_none, cond, List, [], ◌∷◌, ◌++◌, length, map, Option, Some, None, refl, sym, ◌∙◌, ap, inl, inr}
use Rattle.std.specs.List.{list_any}
use Rattle.std.specs.Str.{bytes_eq}
use Rattle.std.specs.Cmp.Lexicographic.{bytes_decides}
use Rattle.std.proofs.lemmas.Bool.{cases_Bool}
use Rattle.ob_session.specs.Session.{Import, Module, name_of, key_of, find_module, first_some, first_fault, fault_of, import_fault, with_module}
use Rattle.ob_link.specs.Exchange.{LinksBehind}
use Rattle.ob_link.specs.Faults.{fault_row, next_row, all_none}
use Rattle.ob_session.specs.Reaches.{reaches}
use Rattle.ob_link.specs.Reaching.{IsApart, reach_row, reaching}
use Rattle.ob_link.specs.Runs.{may_run}
use Rattle.ob_link.proofs.Exchanged.{taken_new}
use Rattle.ob_link.proofs.Faults.{all_link, both_true, first_row, firsts_none, no_fault, none_first_row, none_rows, row_none, some_none, zero_first}
use Rattle.ob_link.proofs.ReachRows.{reach_none}

-- ---- what is found stays found

head_kept : (b : Bool) (y : Module) (o p : Option Module) (x : Module) → (o ≡ Some x → p ≡ Some x) → cond b (Some y) o ≡ Some x → cond b (Some y) p ≡ Some x
head_kept true y o p x h e = e
head_kept false y o p x h e = h e

found_more : (ms : List Module) (m : Module) (q : List ℕ) (x : Module) → find_module ms q ≡ Some x → find_module (ms ++ m ∷ []) q ≡ Some x
found_more [] m q x e = absurd (let k : None ≡ Some x = e in cc)
found_more (y ∷ ms) m q x e = head_kept (bytes_eq (name_of y) q) y (find_module ms q) (find_module (ms ++ m ∷ []) q) x (found_more ms m q x) e

-- ---- an import whose module is loaded with its key

key_kept : (b : Bool) (x : Module) (i : Import) (f g : Import → Option (List ℕ)) → first_fault g x.imports ≡ None → cond b (first_fault f x.imports) (Some i.name) ≡ None → cond b (first_fault g x.imports) (Some i.name) ≡ None
key_kept true x i f g z e = z
key_kept false x i f g z e = e

own_kept : (o p : Option Module) (i : Import) (f g : Import → Option (List ℕ)) → ((x : Module) → o ≡ Some x → p ≡ Some x) → ((is : List Import) → first_fault g is ≡ None) → fault_of o i f ≡ None → fault_of p i g ≡ None
own_kept None p i f g h z e = absurd (let k : Some i.name ≡ None = e in cc)
own_kept (Some x) p i f g h z e = ap (λ (q : Option Module). fault_of q i g) (h x refl) ∙ key_kept (bytes_eq (key_of x) i.key) x i f g (z x.imports) e

one_kept : (ms : List Module) (m : Module) (i : Import) → import_fault ms 1 i ≡ None → import_fault (ms ++ m ∷ []) 1 i ≡ None
one_kept ms m i e =
    own_kept (find_module ms i.name) (find_module (ms ++ m ∷ []) i.name) i (import_fault ms 0) (import_fault (ms ++ m ∷ []) 0) (found_more ms m i.name) (zero_first (ms ++ m ∷ [])) e

firsts_kept : (ms : List Module) (m : Module) (is : List Import) → first_fault (import_fault ms 1) is ≡ None → first_fault (import_fault (ms ++ m ∷ []) 1) is ≡ None
firsts_kept ms m [] e = refl
firsts_kept ms m (i ∷ is) e =
    let both = some_none (import_fault ms 1 i) (first_fault (import_fault ms 1) is) e in
    ap (λ (o : Option (List ℕ)). first_some o (first_fault (import_fault (ms ++ m ∷ []) 1) is)) (one_kept ms m i both.0) ∙ firsts_kept ms m is both.1

-- ---- of each module, and of one more

abbrev own_fault : List Module → Module → Option (List ℕ)
own_fault modules m = first_fault (import_fault modules 1) m.imports

none_more : (all : List Module) (m : Module) (ms : List Module) → all_none (map (own_fault all) ms) ≡ true → own_fault all m ≡ None → all_none (map (own_fault (all ++ m ∷ [])) (ms ++ m ∷ [])) ≡ true
none_more all m [] e f = ap (λ (o : Option (List ℕ)). is_none o && true) (firsts_kept all m m.imports f)
none_more all m (n ∷ ms) e f =
    let both = both_true (is_none (own_fault all n)) (all_none (map (own_fault all) ms)) e in
    let a = firsts_kept all m n.imports (no_fault (own_fault all n) both.0) in
    ap (λ (o : Option (List ℕ)). is_none o && all_none (map (own_fault (all ++ m ∷ [])) (ms ++ m ∷ []))) a ∙ none_more all m ms both.1 f

abbrev none_of : Module → Option (List ℕ)
none_of m = None

nones : (ms : List Module) → all_none (map none_of ms) ≡ true
nones [] = refl
nones (m ∷ ms) = nones ms

nones_more : (ms : List Module) (m : Module) → map none_of (ms ++ m ∷ []) ≡ map none_of ms ++ None ∷ []
nones_more [] m = refl
nones_more (n ∷ ms) m = ap (λ (row : List (Option (List ℕ))). None ∷ row) (nones_more ms m)

trues_more : (ms : List Module) (m : Module) → map (λ (n : Module). true) (ms ++ m ∷ []) ≡ map (λ (n : Module). true) ms ++ true ∷ []
trues_more [] m = refl
trues_more (n ∷ ms) m = ap (λ (row : List Bool). true ∷ row) (trues_more ms m)

-- where all link, each import's own module is loaded with its key
own_none : (ms : List Module) → all_none (fault_row ms (length ms)) ≡ true → all_none (map (own_fault ms) ms) ≡ true
own_none [] e = refl
own_none (m ∷ ms) e = ap all_none (none_first_row (m ∷ ms) (length ms) (m ∷ ms) e) ∙ nones (m ∷ ms)

all_link_more : (ms : List Module) (m : Module) → LinksBehind ms m → all_none (fault_row (ms ++ m ∷ []) (length (ms ++ m ∷ []))) ≡ true
all_link_more ms m h =
    let own = none_more ms m ms (own_none ms h.apart.link) (firsts_none ms (length ms) m.imports h.links) in
    let first = ap all_none (first_row (ms ++ m ∷ [])) ∙ own in
    sym (ap all_none (row_none (ms ++ m ∷ []) (next_row (ms ++ m ∷ []) []) refl first)) ∙ first

-- the module is the last, and nothing has a fault
pub new_last : (ms : List Module) (m : Module) → LinksBehind ms m → with_module ms m ≡ ms ++ m ∷ []
new_last ms m h = taken_new ms m h.apart.new

pub row_more : (ms : List Module) (m : Module) → LinksBehind ms m → fault_row ms (length ms) ++ None ∷ [] ≡ fault_row (with_module ms m) (length (with_module ms m))
row_more ms m h =
    ap (λ (row : List (Option (List ℕ))). row ++ None ∷ []) (none_rows (λ (n : Module). first_fault (import_fault ms (length ms)) n.imports) ms h.apart.link)
    ∙ sym (nones_more ms m)
    ∙ sym (none_rows (λ (n : Module). first_fault (import_fault (ms ++ m ∷ []) (length (ms ++ m ∷ []))) n.imports) (ms ++ m ∷ []) (all_link_more ms m h))
    ∙ ap (λ (xs : List Module). fault_row xs (length xs)) (sym (new_last ms m h))

-- so all may run
pub runs_more : (ms : List Module) (m : Module) → LinksBehind ms m → map (λ (n : Module). true) ms ++ true ∷ [] ≡ may_run (with_module ms m)
runs_more ms m h =
    sym (trues_more ms m) ∙ sym (all_link (ms ++ m ∷ []) (all_link_more ms m h)) ∙ ap may_run (sym (new_last ms m h))

-- ---- nothing reaches a name that no module has

other_by : (o : Option Module) (i : Import) (name : List ℕ) (f : Import → Option (List ℕ)) → o ≡ None → fault_of o i f ≡ None → ⊥
other_by None i name f n e = let k : Some i.name ≡ None = e in cc
other_by (Some x) i name f n e = let k : Some x ≡ None = n in cc

other_name : (ms : List Module) (i : Import) (name : List ℕ) → find_module ms name ≡ None → import_fault ms 1 i ≡ None → bytes_eq i.name name ≡ false
other_name ms i name n e =
    elim (cases_Bool (bytes_eq i.name name)) as (λ _. bytes_eq i.name name ≡ false) [
      | inl y ↦ absurd (other_by (find_module ms i.name) i name (import_fault ms 0) (ap (find_module ms) ((bytes_decides i.name name).0 y) ∙ n) e)
      | inr f ↦ f
    ]

none_named : (ms : List Module) (name : List ℕ) (is : List Import) → find_module ms name ≡ None → first_fault (import_fault ms 1) is ≡ None → list_any (reaches ms 0 name) is ≡ false
none_named ms name [] n e = refl
none_named ms name (i ∷ is) n e =
    let both = some_none (import_fault ms 1 i) (first_fault (import_fault ms 1) is) e in
    let a = other_name ms i name n both.0 in
    let b = none_named ms name is n both.1 in cc

none_flagged : (all : List Module) (name : List ℕ) (ms : List Module) → find_module all name ≡ None → all_none (map (own_fault all) ms) ≡ true → map (λ (m : Module). list_any (reaches all 0 name) m.imports) ms ≡ map (λ (m : Module). false) ms
none_flagged all name [] n e = refl
none_flagged all name (m ∷ ms) n e =
    let both = both_true (is_none (own_fault all m)) (all_none (map (own_fault all) ms)) e in
    let a = none_named all name m.imports n (no_fault (own_fault all m) both.0) in
    let b = none_flagged all name ms n both.1 in cc

no_flag : (ms : List Module) → list_any (λ b. b) (map (λ (m : Module). false) ms) ≡ false
no_flag [] = refl
no_flag (m ∷ ms) = no_flag ms

pub none_reaches : (ms : List Module) (name : List ℕ) → IsApart ms name → map (λ (m : Module). false) ms ≡ reaching ms name
none_reaches ms name h =
    let none = none_flagged ms name ms h.new (own_none ms h.link) in
    sym none ∙ reach_none ms (reach_row ms 0 name) name refl (ap (λ (row : List Bool). list_any (λ b. b) row) none ∙ no_flag ms)
