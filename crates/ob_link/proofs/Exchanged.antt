-- A module that is loaded, and taken back.
use Rattle.std.proofs.Common.{◌≡◌, ℕ, suc, ◌-◌, Bool, true, false, cond, List, [], ◌∷◌, ◌++◌, length, take, Option, Some, None, option_map, refl, sym, ◌∙◌, ap, inl, inr, arith}
use Rattle.std.specs.Str.{bytes_eq}
use Rattle.std.specs.Cmp.Lexicographic.{bytes_decides}
use Rattle.std.proofs.lemmas.Bool.{cases_Bool, cond-true, cond-false}
use Rattle.std.proofs.lemmas.List.{length-append}
use Rattle.std.proofs.Math.Seq.{take-append_seam}
use Rattle.ob_session.specs.Session.{Module, name_of, find_module, with_module}
use Rattle.ob_link.specs.Places.{number_in}
use Rattle.ob_link.specs.Exchange.{IsExchanged, EndsNew, HasName, put_back, without_last, EachExchangeGoesBack}
use Rattle.ob_link.proofs.Places.{with_new, number_more}

abbrev none_module : Option Module
none_module = None

-- ---- one name at the head

-- a look-up by name goes on after a module of another name
no_found : (x : Module) (xs : List Module) (q : List ℕ) → find_module (x ∷ xs) q ≡ None → (bytes_eq (name_of x) q ≡ false) × (find_module xs q ≡ None)
no_found x xs q e =
    elim (cases_Bool (bytes_eq (name_of x) q)) as (λ _. (bytes_eq (name_of x) q ≡ false) × (find_module xs q ≡ None)) [
      | inl y ↦ absurd (let k : Some x ≡ None = sym (cond-true (bytes_eq (name_of x) q) (Some x) (find_module xs q) y) ∙ e in cc)
      | inr n ↦ (n, sym (cond-false (bytes_eq (name_of x) q) (Some x) (find_module xs q) n) ∙ e)
    ]

-- a name that no module has has no number
pub no_number : (ms : List Module) (q : List ℕ) → find_module ms q ≡ None → number_in ms q ≡ None
no_number [] q e = refl
no_number (x ∷ xs) q e =
    let parts = no_found x xs q e in
    ap (λ b. cond b (Some 0) (option_map suc (number_in xs q))) parts.0 ∙ ap (option_map suc) (no_number xs q parts.1)

-- what is found has the name
pub found_name : (ms : List Module) (q : List ℕ) (m : Module) → find_module ms q ≡ Some m → name_of m ≡ q
found_name [] q m e = absurd (let k : none_module ≡ Some m = e in cc)
found_name (x ∷ xs) q m e =
    elim (cases_Bool (bytes_eq (name_of x) q)) as (λ _. name_of m ≡ q) [
      | inl y ↦
          let same : Some x ≡ Some m = sym (cond-true (bytes_eq (name_of x) q) (Some x) (find_module xs q) y) ∙ e in
          let one : x ≡ m = cc in
          sym (ap name_of one) ∙ (bytes_decides (name_of x) q).0 y
      | inr n ↦ found_name xs q m (sym (cond-false (bytes_eq (name_of x) q) (Some x) (find_module xs q) n) ∙ e)
    ]

-- a module that was loaded is found
found_loaded : (ms : List Module) (m : Module) → find_module (with_module ms m) (name_of m) ≡ Some m
found_loaded [] m = cond-true (bytes_eq (name_of m) (name_of m)) (Some m) None ((bytes_decides (name_of m) (name_of m)).1 refl)
found_loaded (x ∷ xs) m =
    elim (cases_Bool (bytes_eq (name_of x) (name_of m))) as (λ _. find_module (with_module (x ∷ xs) m) (name_of m) ≡ Some m) [
      | inl y ↦ ap (λ l. find_module l (name_of m)) (cond-true (bytes_eq (name_of x) (name_of m)) (m ∷ xs) (x ∷ with_module xs m) y)
          ∙ cond-true (bytes_eq (name_of m) (name_of m)) (Some m) (find_module xs (name_of m)) ((bytes_decides (name_of m) (name_of m)).1 refl)
      | inr n ↦ ap (λ l. find_module l (name_of m)) (cond-false (bytes_eq (name_of x) (name_of m)) (m ∷ xs) (x ∷ with_module xs m) n)
          ∙ cond-false (bytes_eq (name_of x) (name_of m)) (Some x) (find_module (with_module xs m) (name_of m)) n
          ∙ found_loaded xs m
    ]

-- ---- the last module

pub last_gone : (xs : List Module) (m : Module) → without_last (xs ++ m ∷ []) ≡ xs
last_gone xs m =
    let shorter : length (xs ++ m ∷ []) - 1 ≡ length xs = omega (arith, length-append xs (m ∷ [])) in
    ap (λ n. take n (xs ++ m ∷ [])) shorter ∙ take-append_seam xs (m ∷ [])

-- ---- an exchange, taken back

pub taken_new : (before : List Module) (loaded : Module) → find_module before (name_of loaded) ≡ None → with_module before loaded ≡ before ++ loaded ∷ []
taken_new before loaded e = with_new before loaded (no_number before (name_of loaded) e)

pub ends_new : (modules : List Module) → IsExchanged modules None → EndsNew modules
ends_new modules h = record {
  before = h.before;
  last = h.loaded;
  ends = h.now ∙ taken_new h.before h.loaded (sym h.taken);
  new = sym h.taken;
}

pub has_name : (modules : List Module) (m : Module) → IsExchanged modules (Some m) → HasName modules (name_of m)
has_name modules m h = λ none.
    let same : name_of m ≡ name_of h.loaded = found_name h.before (name_of h.loaded) m (sym h.taken) in
    let there : find_module modules (name_of m) ≡ Some h.loaded = ap (find_module modules) same ∙ ap (λ l. find_module l (name_of h.loaded)) h.now ∙ found_loaded h.before h.loaded in
    let k : Some h.loaded ≡ None = sym there ∙ none in
    cc

pub back_new : (before : List Module) (loaded : Module) → find_module before (name_of loaded) ≡ None → without_last (with_module before loaded) ≡ before
back_new before loaded e = ap without_last (taken_new before loaded e) ∙ last_gone before loaded

back_again : (before : List Module) (loaded m : Module) → find_module before (name_of loaded) ≡ Some m → with_module (with_module before loaded) m ≡ before
back_again [] loaded m e = absurd (let k : none_module ≡ Some m = e in cc)
back_again (x ∷ xs) loaded m e =
    let same : name_of m ≡ name_of loaded = found_name (x ∷ xs) (name_of loaded) m e in
    elim (cases_Bool (bytes_eq (name_of x) (name_of loaded))) as (λ _. with_module (with_module (x ∷ xs) loaded) m ≡ x ∷ xs) [
      | inl y ↦
          let found : Some x ≡ Some m = sym (cond-true (bytes_eq (name_of x) (name_of loaded)) (Some x) (find_module xs (name_of loaded)) y) ∙ e in
          let one : x ≡ m = cc in
          ap (λ l. with_module l m) (cond-true (bytes_eq (name_of x) (name_of loaded)) (loaded ∷ xs) (x ∷ with_module xs loaded) y)
          ∙ cond-true (bytes_eq (name_of loaded) (name_of m)) (m ∷ xs) (loaded ∷ with_module xs m) ((bytes_decides (name_of loaded) (name_of m)).1 (sym same))
          ∙ ap (λ z. z ∷ xs) (sym one)
      | inr n ↦
          ap (λ l. with_module l m) (cond-false (bytes_eq (name_of x) (name_of loaded)) (loaded ∷ xs) (x ∷ with_module xs loaded) n)
          ∙ cond-false (bytes_eq (name_of x) (name_of m)) (m ∷ with_module xs loaded) (x ∷ with_module (with_module xs loaded) m) (ap (bytes_eq (name_of x)) same ∙ n)
          ∙ ap (λ l. x ∷ l) (back_again xs loaded m (sym (cond-false (bytes_eq (name_of x) (name_of loaded)) (Some x) (find_module xs (name_of loaded)) n) ∙ e))
    ]

put_back_by : (before : List Module) (loaded : Module) (found : Option Module) → find_module before (name_of loaded) ≡ found → put_back (with_module before loaded) found ≡ before
put_back_by before loaded None e = back_new before loaded e
put_back_by before loaded (Some m) e = back_again before loaded m e

pub goes_back : EachExchangeGoesBack
goes_back = λ before loaded. put_back_by before loaded (find_module before (name_of loaded)) refl

-- ---- a map without the last name

without_name : (b : Bool) (n : ℕ) (o : Option ℕ) → (b ≡ true → o ≡ None) → cond b None (cond b (Some n) o) ≡ o
without_name true n o h = sym (h refl)
without_name false n o h = refl

pub number_less : (ms : List Module) (m : Module) (q : List ℕ) → find_module ms (name_of m) ≡ None → cond (bytes_eq (name_of m) q) None (number_in (ms ++ m ∷ []) q) ≡ number_in ms q
number_less ms m q none =
    let unknown : number_in ms (name_of m) ≡ None = no_number ms (name_of m) none in
    ap (cond (bytes_eq (name_of m) q) None) (number_more ms m q unknown)
    ∙ without_name (bytes_eq (name_of m) q) (length ms) (number_in ms q) (λ y. ap (number_in ms) (sym ((bytes_decides (name_of m) q).0 y)) ∙ unknown)
