-- The first free name is free.
use Rattle.std.proofs.Common.{◌≡◌, ℕ, ◌+◌, ◌-◌, ◌<◌, ◌≤◌, ◌^◌, Bool, true, false, cond, zero, suc, List, [], ◌∷◌, ◌++◌, length, map, Option, Some, None, arith, refl, sym, ap, ◌∙◌, subst}
use Rattle.std.specs.Prelude.{◌||◌, decimal, nat_eq, nat_lt}
use Rattle.std.specs.Cmp.Lexicographic.{nat_list_eq_equiv}
use Rattle.std.specs.List.{AllByRecursion, IsDistinct}
use Rattle.std.specs.Set.{is_member}
use Rattle.std.specs.Str.{bytes_eq}
use Rattle.std.proofs.lemmas.Bool.Decides.{nat_tests}
use Rattle.std.proofs.lemmas.Fmt.{decimal_injective, decimal_nonempty}
use Rattle.std.proofs.lemmas.Bool.{false_from_ne_true}
use Rattle.std.specs.Option.{unwrap_or}
use Rattle.std.proofs.lemmas.List.{append_cancel_left, append_cancel_right, length-append, length-map}
use Rattle.std.proofs.lemmas.List.Folds.{list_any-append}
use Rattle.std.proofs.lemmas.Map.Made.{length-le_from_is_member}
use Rattle.std.proofs.lemmas.Slice.Eq.{bytes_eq-Decides}
use Rattle.js_shelf.specs.Paths.{behind}
use Rattle.js_contents.specs.Places.{child}
use Rattle.js_tables.specs.Sessions.{is_at}
use Rattle.js_tables.specs.declared.forms.Kind.{Kind}
use Rattle.js_tables.specs.declared.tables.Kernel.{Kernel}
use Rattle.js_tables.specs.declared.tables.Session.{Session}
use Rattle.js_names.specs.Untitled.{stem, joint, name_at, is_among, has_session, is_taken, free_from, first_free}
use Rattle.js_names.proofs.Taken.{text_behind, is_that}

-- ---- the search

free_step : (name_of : ℕ → List ℕ) (taken : List ℕ → Bool) (n last : ℕ) → n < last
    → free_from name_of taken n (last - n) ≡ cond (taken (name_of n)) (free_from name_of taken (n + 1) (last - (n + 1))) (name_of n)
free_step name_of taken n last less =
    let e : last - n ≡ suc (last - (n + 1)) = omega (arith, less) in
    ap (free_from name_of taken n) e

pub stops : (name_of : ℕ → List ℕ) (taken : List ℕ → Bool) (n last : ℕ) (first : List ℕ) → n < last → taken (name_of n) ≡ false
    → free_from name_of taken n (last - n) ≡ first → name_of n ≡ first
stops name_of taken n last first less free is =
    sym (ap (λ t. cond t (free_from name_of taken (n + 1) (last - (n + 1))) (name_of n)) free) ∙ sym (free_step name_of taken n last less) ∙ is

pub goes_on : (name_of : ℕ → List ℕ) (taken : List ℕ → Bool) (n last : ℕ) (first : List ℕ) → n < last → taken (name_of n) ≡ true
    → free_from name_of taken n (last - n) ≡ first → free_from name_of taken (n + 1) (last - (n + 1)) ≡ first
goes_on name_of taken n last first less full is =
    sym (ap (λ t. cond t (free_from name_of taken (n + 1) (last - (n + 1))) (name_of n)) full) ∙ sym (free_step name_of taken n last less) ∙ is

-- where it ends at a name that is taken, each name on its way is
all_taken : (name_of : ℕ → List ℕ) (taken : List ℕ → Bool) (n left : ℕ) → taken (free_from name_of taken n left) ≡ true
    → (i : ℕ) → i ≤ left → taken (name_of (n + i)) ≡ true
all_taken name_of taken n zero is i within =
    let e : n ≡ n + i = omega (arith, within) in
    subst (λ m. taken (name_of m) ≡ true) e is
all_taken name_of taken n (suc left) is i within =
    elim (taken (name_of n))
    as (λ t. taken (name_of n) ≡ t → taken (cond t (free_from name_of taken (n + 1) left) (name_of n)) ≡ true → taken (name_of (n + i)) ≡ true) [
      | true ↦ λ t is. at i within t (all_taken name_of taken (n + 1) left is)
      | false ↦ λ t is. absurd (clash (sym t ∙ is))
    ] refl is
  where
    clash : false ≡ true → ⊥
    clash e = cc e

    at : (i : ℕ) → i ≤ suc left → taken (name_of n) ≡ true → ((j : ℕ) → j ≤ left → taken (name_of (n + 1 + j)) ≡ true) → taken (name_of (n + i)) ≡ true
    at zero within t more =
        let e : n ≡ n + 0 = omega arith in
        subst (λ m. taken (name_of m) ≡ true) e t
    at (suc j) within t more =
        let e : n + 1 + j ≡ n + suc j = omega arith in
        subst (λ m. taken (name_of m) ≡ true) e (more j (omega (arith, within)))

-- ---- so many names, no two alike

names_below : (ℕ → List ℕ) → ℕ → List (List ℕ)
names_below name_of zero = []
names_below name_of (suc n) = name_of n ∷ names_below name_of n

length-names_below : (name_of : ℕ → List ℕ) (n : ℕ) → length (names_below name_of n) ≡ n
unfolding names_below
length-names_below name_of zero = refl
length-names_below name_of (suc n) = let more = length-names_below name_of n in omega (arith, more)

-- different numbers below the bound have different names
abbrev AreApart : (ℕ → List ℕ) → ℕ → Type 0
AreApart name_of bound = (m n : ℕ) → m < n → n < bound → bytes_eq (name_of n) (name_of m) ≡ false

apart_below : (name_of : ℕ → List ℕ) (bound n k : ℕ) → AreApart name_of bound → n < bound → k ≤ n
    → AllByRecursion (λ name. bytes_eq (name_of n) name ≡ false) (names_below name_of k)
unfolding names_below
apart_below name_of bound n zero apart within less = tt
apart_below name_of bound n (suc k) apart within less =
    (apart k n (omega (arith, less)) within, apart_below name_of bound n k apart within (omega (arith, less)))

distinct_below : (name_of : ℕ → List ℕ) (bound n : ℕ) → AreApart name_of bound → n ≤ bound → IsDistinct bytes_eq (names_below name_of n)
unfolding names_below IsDistinct
distinct_below name_of bound zero apart within = tt
distinct_below name_of bound (suc n) apart within =
    (apart_below name_of bound n n apart (omega (arith, within)) (omega arith), distinct_below name_of bound n apart (omega (arith, within)))

taken_below : (name_of : ℕ → List ℕ) (taken : List ℕ → Bool) (n : ℕ) → ((i : ℕ) → i < n → taken (name_of i) ≡ true)
    → (q : List ℕ) → is_member bytes_eq (names_below name_of n) q ≡ true → taken q ≡ true
unfolding names_below
taken_below name_of taken zero all q is = absurd (cc is)
taken_below name_of taken (suc n) all q is =
    elim (bytes_eq q (name_of n))
    as (λ t. bytes_eq q (name_of n) ≡ t → (t || is_member bytes_eq (names_below name_of n) q) ≡ true → taken q ≡ true) [
      | true ↦ λ t is. (ap taken ((bytes_eq-Decides q (name_of n)).0 t) ∙ all n (omega arith))
      | false ↦ λ t is. taken_below name_of taken n (λ i less. all i (omega (arith, less))) q is
    ] refl is

-- ---- names have their numbers

stem_more : (k : Kind) (n : ℕ) → n < 2 ^ 64 → stem k ≡ (stem k ++ joint k) ++ decimal n → ⊥
stem_more k n small e =
    let some = decimal_nonempty n small in
    let lengths : length (stem k) ≡ length (stem k) + length (joint k) + length (decimal n) =
    ap length e ∙ length-append (stem k ++ joint k) (decimal n) ∙ ap (λ m. m + length (decimal n)) (length-append (stem k) (joint k)) in
    omega (arith, some, lengths)

-- a number that is not 0 is shown
shown : (k : Kind) (n : ℕ) → cond (nat_lt 0 (suc n)) ((stem k ++ joint k) ++ decimal (suc n)) (stem k) ≡ (stem k ++ joint k) ++ decimal (suc n)
shown k n =
    let positive : nat_lt 0 (suc n) ≡ true = grind (arith, nat_tests) in
    ap (λ t. cond t ((stem k ++ joint k) ++ decimal (suc n)) (stem k)) positive

-- a larger number has another name
later_apart : (k : Kind) (m n : ℕ) → m < n → n < 2 ^ 64
    → cond (nat_lt 0 n) ((stem k ++ joint k) ++ decimal n) (stem k) ≡ cond (nat_lt 0 m) ((stem k ++ joint k) ++ decimal m) (stem k) → ⊥
later_apart k zero (suc n) less small e = stem_more k (suc n) small (sym e ∙ shown k n)
later_apart k (suc m) (suc n) less small e =
    let same = decimal_injective (suc n) (suc m) small (omega (arith, less, small))
    (append_cancel_left (stem k ++ joint k) (decimal (suc n)) (decimal (suc m)) (sym (shown k n) ∙ e ∙ shown k m)) in
    omega (arith, less, same)
later_apart k m zero less small e = omega (arith, less)

names_apart : (k : Kind) (ending : List ℕ) → AreApart (name_at k ending) (2 ^ 64)
names_apart k ending m n less small =
    false_from_ne_true (bytes_eq (name_at k ending n) (name_at k ending m))
    (λ e. later_apart k m n less small
    (append_cancel_right (cond (nat_lt 0 n) ((stem k ++ joint k) ++ decimal n) (stem k)) (cond (nat_lt 0 m) ((stem k ++ joint k) ++ decimal m) (stem k)) ending
    ((bytes_eq-Decides (name_at k ending n) (name_at k ending m)).0 e)))

-- ---- at most so many names are taken

abbrev front : List ℕ → List ℕ
front folder = cond (nat_eq (length folder) 0) folder (folder ++ 47 ∷ [])

-- the name that a session may take
abbrev name_taken : List ℕ → Option Session → List ℕ
name_taken folder None = []
name_taken folder (Some s) = unwrap_or (behind (front folder) s.path) []

abbrev session_names : List ℕ → List Kernel → List (List ℕ)
session_names folder ks = map (λ k. name_taken folder k.session) ks

either : (a b c d : Bool) → (a ≡ true → c ≡ true) → (b ≡ true → d ≡ true) → (a || b) ≡ true → (c || d) ≡ true
either true b c d first second is = ap (λ t. t || d) (first refl)
either false b true d first second is = refl
either false b false d first second is = second is

among_member : (names : List (List ℕ)) (q : List ℕ) → is_among names q ≡ true → is_member bytes_eq names q ≡ true
among_member [] q is = is
among_member (name ∷ names) q is =
    either (bytes_eq name q) (is_among names q) (bytes_eq q name) (is_member bytes_eq names q)
    (λ e. nat_list_eq_equiv.symm q name ∙ e) (among_member names q) is

session_member : (folder q : List ℕ) (o : Option Session) → is_at (child folder q).path o ≡ true → bytes_eq q (name_taken folder o) ≡ true
session_member folder q None is = absurd (cc is)
session_member folder q (Some s) is = by_case (behind (front folder) s.path) (sym (text_behind (front folder) s.path q) ∙ is)
  where
    by_case : (r : Option (List ℕ)) → is_that q r ≡ true → bytes_eq q (unwrap_or r []) ≡ true
    by_case None is = absurd (cc is)
    by_case (Some name) is = nat_list_eq_equiv.symm q name ∙ is

sessions_member : (folder : List ℕ) (ks : List Kernel) (q : List ℕ) → has_session folder ks q ≡ true → is_member bytes_eq (session_names folder ks) q ≡ true
sessions_member folder [] q is = is
sessions_member folder (k ∷ ks) q is =
    either (is_at (child folder q).path k.session) (has_session folder ks q) (bytes_eq q (name_taken folder k.session)) (is_member bytes_eq (session_names folder ks) q)
    (session_member folder q k.session) (sessions_member folder ks q) is

taken_member : (folder : List ℕ) (names : List (List ℕ)) (ks : List Kernel) (q : List ℕ) → is_taken folder names ks q ≡ true
    → is_member bytes_eq (names ++ session_names folder ks) q ≡ true
taken_member folder names ks q is =
    list_any-append (bytes_eq q) names (session_names folder ks)
    ∙ either (is_among names q) (has_session folder ks q) (is_member bytes_eq names q) (is_member bytes_eq (session_names folder ks) q)
    (among_member names q) (sessions_member folder ks q) is

-- ---- so the first free name is free

pub first_is_free : (k : Kind) (ending folder : List ℕ) (names : List (List ℕ)) (ks : List Kernel) → length names + length ks < 2 ^ 64
    → is_taken folder names ks (first_free k ending folder names ks) ≡ false
first_is_free k ending folder names ks small =
    false_from_ne_true (taken (first_free k ending folder names ks))
    (λ is.
    let all = all_taken name_of taken 0 count is in
    let below : (i : ℕ) → i < suc count → taken (name_of i) ≡ true =
    λ i less. (let e : 0 + i ≡ i = omega arith in subst (λ m. taken (name_of m) ≡ true) e (all i (omega (arith, less)))) in
    let many = length-le_from_is_member nat_list_eq_equiv (names_below name_of (suc count)) (names ++ session_names folder ks)
    (distinct_below name_of (2 ^ 64) (suc count) (names_apart k ending) (omega (arith, small)))
    (λ q among. taken_member folder names ks q (taken_below name_of taken (suc count) below q among)) in
    omega (arith, many, length-names_below name_of (suc count), length-append names (session_names folder ks), length-map ks (λ (k : Kernel). name_taken folder k.session)))
  where
    name_of : ℕ → List ℕ
    name_of = name_at k ending

    taken : List ℕ → Bool
    taken = is_taken folder names ks

    count : ℕ
    count = length names + length ks
