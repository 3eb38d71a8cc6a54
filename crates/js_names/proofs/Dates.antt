-- Dates that go to other paths.
use Rattle.std.proofs.Common.{◌≡◌, ℕ, Bool, true, false, cond, List, [], ◌∷◌, ◌++◌, Option, Some, None, refl, sym, ap, ◌∙◌}
use Rattle.std.specs.Prelude.{String, string_bytes, IsSome}
use Rattle.std.specs.List.{AllByRecursion, IsDistinct}
use Rattle.std.specs.Map.{keys_of, lookup}
use Rattle.std.specs.String.{string_eq}
use Rattle.std.specs.Str.{bytes_eq}
use Rattle.std.proofs.lemmas.Map.Keys.{IsDistinct-head, IsDistinct-tail}
use Rattle.std.proofs.lemmas.Slice.Eq.{bytes_eq-Decides}
use Rattle.js_shelf.specs.Paths.{following, goes, goes_by}
use Rattle.js_shelf.proofs.MoveLemmas.{following_append, goes_back}
use Rattle.js_tables.specs.Tables.{Dates}
use Rattle.js_names.specs.Moves.{HasMoved}

-- ---- what goes to a path

-- the first, or else the second
abbrev pub or_else : Option (List ℕ) → Option (List ℕ) → Option (List ℕ)
or_else None date = date
or_else (Some date) other = Some date

-- the second is that path
abbrev pub is_that : List ℕ → Option (List ℕ) → Bool
is_that path None = false
is_that path (Some other) = bytes_eq other path

-- the last date that goes to that path
abbrev pub last_there : {A : Type 0} → List ℕ → List ℕ → List (String A × List ℕ) → Dates
last_there from to [] path = None
last_there from to (e ∷ es) path =
    or_else (last_there from to es path) (cond (is_that path (goes from to (string_bytes e.0))) (Some e.1) None)

or_else-none : (r : Option (List ℕ)) → or_else r None ≡ r
or_else-none None = refl
or_else-none (Some x) = refl

-- ---- the last that goes there is the one that comes from there

-- what a table holds at each text
abbrev pub held : {A : Type 0} → List (String A × List ℕ) → Dates
held es path = lookup (λ k. bytes_eq path (string_bytes k)) es

-- the date at a path, if there is one
abbrev date_from : Dates → Option (List ℕ) → Option (List ℕ)
date_from dates None = None
date_from dates (Some path) = dates path

none_else : {A : Type 0} (k : String A) (es : List (String A × List ℕ)) → AllByRecursion (λ x. string_eq k x ≡ false) (keys_of es) → held es (string_bytes k) ≡ None
none_else k [] others = refl
none_else k (e ∷ es) others =
    ap (λ b. cond b (Some e.1) (held es (string_bytes k))) others.0 ∙ none_else k es others.1

that_is : (q : List ℕ) (r : Option (List ℕ)) → is_that q r ≡ true → r ≡ Some q
that_is q None e = absurd (cc e)
that_is q (Some p) e = ap (λ t. Some t) ((bytes_eq-Decides p q).0 e)

that_same : (q : List ℕ) (r : Option (List ℕ)) → r ≡ Some q → is_that q r ≡ true
that_same q r e = ap (is_that q) e ∙ (bytes_eq-Decides q q).1 refl

both : (a b : Bool) → (a ≡ true → b ≡ true) → (b ≡ true → a ≡ true) → a ≡ b
both true b there back = sym (there refl)
both false true there back = back refl
both false false there back = refl

-- the tests of q against where k goes, and of where q came from against k
same_test : (from to k q : List ℕ) (r : Option (List ℕ)) → goes to from q ≡ r → is_that q (goes from to k) ≡ is_that k r
same_test from to k q r origin =
    both (is_that q (goes from to k)) (is_that k r)
    (λ e. that_same k r (sym origin ∙ goes_back from to k q (that_is q (goes from to k) e)))
    (λ e. that_same q (goes from to k) (goes_back to from q k (origin ∙ that_is k r e)))

last_by : {A : Type 0} (from to : List ℕ) (es : List (String A × List ℕ)) → IsDistinct string_eq (keys_of es)
    → (q : List ℕ) (r : Option (List ℕ)) → goes to from q ≡ r → last_there from to es q ≡ date_from (held es) r
last_by from to [] distinct q None origin = refl
last_by from to [] distinct q (Some p) origin = refl
last_by from to (e ∷ es) distinct q None origin =
    (λ i. or_else (last_by from to es (IsDistinct-tail string_eq e.0 (keys_of es) distinct) q None origin i) (cond (same_test from to (string_bytes e.0) q None origin i) (Some e.1) None))
last_by from to (e ∷ es) distinct q (Some p) origin =
    (λ i. or_else (last_by from to es (IsDistinct-tail string_eq e.0 (keys_of es) distinct) q (Some p) origin i) (cond (same_test from to (string_bytes e.0) q (Some p) origin i) (Some e.1) None))
    ∙ by_case (bytes_eq p (string_bytes e.0)) refl
  where
    by_case : (t : Bool) → bytes_eq p (string_bytes e.0) ≡ t
        → or_else (held es p) (cond (bytes_eq p (string_bytes e.0)) (Some e.1) None) ≡ cond (bytes_eq p (string_bytes e.0)) (Some e.1) (held es p)
    by_case true is =
        let same = (bytes_eq-Decides p (string_bytes e.0)).0 is in
        let none : held es p ≡ None = ap (held es) same ∙ none_else e.0 es (IsDistinct-head string_eq e.0 (keys_of es) distinct) in
        (λ i. or_else (none i) (cond (is i) (Some e.1) None)) ∙ ap (λ b. cond b (Some e.1) (held es p)) (sym is)
    by_case false is =
        ap (λ b. or_else (held es p) (cond b (Some e.1) None)) is ∙ or_else-none (held es p) ∙ ap (λ b. cond b (Some e.1) (held es p)) (sym is)

-- ---- a move

some_follows : (r : Option (List ℕ)) (from path : List ℕ) → IsSome r → goes_by from path None r ≡ None
some_follows None from path some = absurd (cc some)
some_follows (Some rest) from path some = refl

has_moved : (from to : List ℕ) (before after : Dates) → ((q : List ℕ) → after q ≡ date_from before (goes to from q)) → HasMoved from to before after
has_moved from to before after came = record {
  there = λ rest down.
      came (to ++ rest) ∙ ap (λ r. date_from before (goes_by from (to ++ rest) r (following from (to ++ rest)))) (following_append to rest down);
  left = λ path none some.
      came path ∙ ap (λ r. date_from before (goes_by from path r (following from path))) none ∙ ap (date_from before) (some_follows (following from path) from path some);
  others = λ path none other.
      came path ∙ (λ i. date_from before (goes_by from path (none i) (other i)));
}

-- where each date went where it goes, the dates have moved
pub all_moved : {A : Type 0} (from to : List ℕ) (es : List (String A × List ℕ)) (after : Dates) → IsDistinct string_eq (keys_of es)
    → ((q : List ℕ) → after q ≡ last_there from to es q) → HasMoved from to (held es) after
all_moved from to es after distinct each =
    has_moved from to (held es) after (λ q. each q ∙ last_by from to es distinct q (goes to from q) refl)
