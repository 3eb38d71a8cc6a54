-- Items that are moved.
use Rattle.std.proofs.Common.{◌≡◌, ℕ, Bool, true, false, cond, List, [], ◌∷◌, ◌++◌, Option, Some, None, refl, sym, ap, ◌∙◌, subst}
use Rattle.std.specs.Prelude.{String, string_bytes}
use Rattle.std.specs.List.{AllByRecursion}
use Rattle.std.specs.List.Sorted.{IsStrictlySortedBy}
use Rattle.std.specs.Map.{keys_of}
use Rattle.std.specs.String.{string_cmp}
use Rattle.std.specs.Str.{bytes_eq}
use Rattle.std.specs.Cmp.Lexicographic.{slice_cmp}
use Rattle.std.specs.Ordering.{is_eq, nat_cmp}
use Rattle.std.specs.declared.cmp.Ordering.TheVariants.{Less}
use Rattle.std.proofs.lemmas.Slice.Eq.{bytes_eq-Decides}
use Rattle.js_shelf.specs.declared.item.Item.{Item}
use Rattle.js_shelf.specs.Paths.{only_if, goes_down, behind, following, goes, goes_by}
use Rattle.js_shelf.specs.Memory.{moved_items, or_else, is_that}
use Rattle.js_shelf.specs.Shelves.{Contents, Same, with_item, at_some}
use Rattle.js_shelf.proofs.PathLemmas.{behind_some, behind_some_is}
use Rattle.js_shelf.proofs.NameLemmas.{held, at_head}

-- ---- a step of the loop

or_else_step : (first : Option Item) (test : Bool) (item : Item) (old : Option Item)
    → or_else first (cond test (Some item) old) ≡ or_else (or_else first (cond test (Some item) None)) old
or_else_step None true item old = refl
or_else_step None false item old = refl
or_else_step (Some x) test item old = refl

pub moved_step : {A : Type 0} (from to : List ℕ) (e : String A × Item) (es : List (String A × Item)) (p : List ℕ) (item : Item) (old new all : Contents)
    → Some p ≡ goes from to (string_bytes e.0) → item ≡ e.1 → Same (with_item old p (Some item)) new
    → ((q : List ℕ) → or_else (moved_items from to (e ∷ es) q) (old q) ≡ all q) → (q : List ℕ) → or_else (moved_items from to es q) (new q) ≡ all q
moved_step from to e es p item old new all is same set before q =
    ap (or_else (moved_items from to es q)) (set q)
    ∙ or_else_step (moved_items from to es q) (bytes_eq p q) item (old q)
    ∙ (λ i. or_else (or_else (moved_items from to es q) (cond (is_that q (is i)) (Some (same i)) None)) (old q))
    ∙ before q

-- ---- where a path goes, and came from

following_is : (top path rest : List ℕ) → following top path ≡ Some rest → (path ≡ top ++ rest) × (goes_down rest ≡ true)
following_is top path rest e = by_case (behind top path) refl e
  where
    by_case : (r : Option (List ℕ)) → behind top path ≡ r → only_if goes_down r ≡ Some rest → (path ≡ top ++ rest) × (goes_down rest ≡ true)
    by_case None is e = absurd (cc e)
    by_case (Some text) is e =
        elim (goes_down text) as (λ b. goes_down text ≡ b → cond b (Some text) None ≡ Some rest → (path ≡ top ++ rest) × (goes_down rest ≡ true)) [
          | true ↦ λ t e. (let same : text ≡ rest = cc e in (behind_some_is top path text is ∙ ap (λ r. top ++ r) same, ap goes_down (sym same) ∙ t))
          | false ↦ λ t e. absurd (cc e)
        ] refl e

pub following_append : (top rest : List ℕ) → goes_down rest ≡ true → following top (top ++ rest) ≡ Some rest
following_append top rest down =
    ap (only_if goes_down) (behind_some top rest) ∙ ap (λ b. cond b (Some rest) None) down

pub goes_back : (from to k q : List ℕ) → goes from to k ≡ Some q → goes to from q ≡ Some k
goes_back from to k q e = by_case (following from k) (following to k) refl refl e
  where
    by_case : (r s : Option (List ℕ)) → following from k ≡ r → following to k ≡ s → goes_by to k r s ≡ Some q → goes to from q ≡ Some k
    by_case (Some rest) s is other e =
        let at = following_is from k rest is in
        let there : to ++ rest ≡ q = cc e in
        let follows : following to q ≡ Some rest = ap (following to) (sym there) ∙ following_append to rest at.1 in
        ap (λ r. goes_by from q r (following from q)) follows ∙ ap (λ path. Some path) (sym at.0)
    by_case None (Some rest) is other e = absurd (cc e)
    by_case None None is other e =
        let same : k ≡ q = cc e in
        (λ i. goes_by from q (following to (sym same i)) (following from (sym same i)))
        ∙ (λ i. goes_by from q (other i) (is i)) ∙ ap (λ path. Some path) (sym same)

-- ---- the last that goes there is the one that comes from there

none_above : {A : Type 0} (p : List ℕ) (es : List (String A × Item)) → AllByRecursion (λ k. slice_cmp nat_cmp p (string_bytes k) ≡ Less) (keys_of es) → held es p ≡ None
none_above p [] later = refl
none_above p (e ∷ es) later =
    ap (λ o. cond (is_eq o) (Some e.1) (held es p)) later.0 ∙ none_above p es later.1

or_else-none : (r : Option Item) → or_else r None ≡ r
or_else-none None = refl
or_else-none (Some x) = refl

that_is : (q : List ℕ) (r : Option (List ℕ)) → is_that q r ≡ true → r ≡ Some q
that_is q None e = absurd (cc e)
that_is q (Some p) e = ap (λ t. Some t) ((bytes_eq-Decides p q).0 e)

that_same : (q : List ℕ) (r : Option (List ℕ)) → r ≡ Some q → is_that q r ≡ true
that_same q r e = ap (is_that q) e ∙ (bytes_eq-Decides q q).1 refl

both : (a b : Bool) → (a ≡ true → b ≡ true) → (b ≡ true → a ≡ true) → a ≡ b
both true b there back = sym (there refl)
both false true there back = back refl
both false false there back = refl

-- the tests of q against where k goes, and of where q came from against k
same_test : (from to k q : List ℕ) (r : Option (List ℕ)) → goes to from q ≡ r → is_that q (goes from to k) ≡ is_that k r
same_test from to k q r origin =
    both (is_that q (goes from to k)) (is_that k r)
    (λ e. that_same k r (sym origin ∙ goes_back from to k q (that_is q (goes from to k) e)))
    (λ e. that_same q (goes from to k) (goes_back to from q k (origin ∙ that_is k r e)))

moved_by : {A : Type 0} (from to : List ℕ) (es : List (String A × Item)) → IsStrictlySortedBy string_cmp (keys_of es)
    → (q : List ℕ) (r : Option (List ℕ)) → goes to from q ≡ r → moved_items from to es q ≡ at_some (held es) r
unfolding IsStrictlySortedBy
moved_by from to [] sorted q None origin = refl
moved_by from to [] sorted q (Some p) origin = refl
moved_by from to (e ∷ es) sorted q None origin =
    (λ i. or_else (moved_by from to es sorted.1 q None origin i) (cond (same_test from to (string_bytes e.0) q None origin i) (Some e.1) None))
moved_by from to (e ∷ es) sorted q (Some p) origin =
    (λ i. or_else (moved_by from to es sorted.1 q (Some p) origin i) (cond (same_test from to (string_bytes e.0) q (Some p) origin i) (Some e.1) None))
    ∙ by_case (bytes_eq p (string_bytes e.0)) refl
    ∙ ap (λ b. cond b (Some e.1) (held es p)) (sym (at_head p e.0))
  where
    by_case : (t : Bool) → bytes_eq p (string_bytes e.0) ≡ t
        → or_else (held es p) (cond (bytes_eq p (string_bytes e.0)) (Some e.1) None) ≡ cond (bytes_eq p (string_bytes e.0)) (Some e.1) (held es p)
    by_case true is =
        let same = (bytes_eq-Decides p (string_bytes e.0)).0 is in
        let none = none_above p es (subst (λ bs. AllByRecursion (λ k. slice_cmp nat_cmp bs (string_bytes k) ≡ Less) (keys_of es)) (sym same) sorted.0) in
        (λ i. or_else (none i) (cond (is i) (Some e.1) None)) ∙ ap (λ b. cond b (Some e.1) (held es p)) (sym is)
    by_case false is =
        ap (λ b. or_else (held es p) (cond b (Some e.1) None)) is ∙ or_else-none (held es p) ∙ ap (λ b. cond b (Some e.1) (held es p)) (sym is)

-- what a move leaves at each path
pub moved_is : {A : Type 0} (from to : List ℕ) (es : List (String A × Item)) → IsStrictlySortedBy string_cmp (keys_of es)
    → (q : List ℕ) → moved_items from to es q ≡ at_some (held es) (goes to from q)
moved_is from to es sorted q = moved_by from to es sorted q (goes to from q) refl
