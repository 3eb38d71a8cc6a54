-- The names in a folder.
use Rattle.std.proofs.Common.{◌≡◌, ℕ, Bool, true, false, cond, List, [], ◌∷◌, ◌++◌, Option, Some, None, refl, sym, ap, ◌∙◌, subst, inl, inr, ◌⊎◌, arith, append_assoc}
use Rattle.std.specs.Prelude.{◌||◌, ◌==◌, nat_lt, IsSome, is_some, String, string_bytes}
use Rattle.std.specs.List.{AllByRecursion}
use Rattle.std.specs.List.Sorted.{IsStrictlySortedBy}
use Rattle.std.specs.Map.{lookup, keys_of}
use Rattle.std.specs.BTreeMap.{is_at}
use Rattle.std.specs.String.{string_cmp}
use Rattle.std.specs.Str.{bytes_eq}
use Rattle.std.specs.Cmp.Lexicographic.{slice_cmp}
use Rattle.std.specs.Ordering.{nat_cmp, ordering_then}
use Rattle.std.specs.declared.cmp.Ordering.TheVariants.{Less, Equal, Greater}
use Rattle.std.proofs.lemmas.Map.Text.{is_eq-slice_cmp}
use Rattle.std.proofs.lemmas.Slice.Eq.{bytes_eq-Decides}
use Rattle.std.proofs.lemmas.Bool.Decides.{nat_tests}
use Rattle.js_shelf.specs.declared.item.Item.{Item}
use Rattle.js_shelf.specs.Paths.{is_name, only_if, after_slash, behind, name_in}
use Rattle.js_shelf.specs.Memory.{names_in, has_names, in_front}
use Rattle.js_shelf.specs.Shelves.{Contents, Has, IsListing}
use Rattle.js_shelf.proofs.PathLemmas.{behind_some_is}

-- what an item list holds at each path
abbrev pub held : {A : Type 0} → List (String A × Item) → Contents
held es path = lookup (is_at (λ k. slice_cmp nat_cmp path (string_bytes k))) es

-- ---- a path by its folder and its name

abbrev front_of : List ℕ → List ℕ
front_of [] = []
front_of (byte ∷ folder) = (byte ∷ folder) ++ 47 ∷ []

passed : (test : List ℕ → Bool) (r : Option (List ℕ)) (name : List ℕ) → only_if test r ≡ Some name → r ≡ Some name
passed test None name e = e
passed test (Some text) name e =
    elim (test text) as (λ b. cond b (Some text) None ≡ Some name → Some text ≡ Some name) [
      | true ↦ λ e. e
      | false ↦ λ e. absurd (none_some e)
    ] e
  where
    none_some : None ≡ Some name → ⊥
    none_some e = absurd (cc e)

slashed : (r : Option (List ℕ)) (name : List ℕ) → after_slash r ≡ Some name → r ≡ Some (47 ∷ name)
slashed None name e = absurd (cc e)
slashed (Some text) name e = ap (λ t. Some t) (behind_some_is (47 ∷ []) text name e)

name_path : (folder path name : List ℕ) → name_in folder path ≡ Some name → path ≡ front_of folder ++ name
name_path [] path name e = let is = passed is_name (Some path) name e in cc is
name_path (byte ∷ folder) path name e =
    let is = slashed (behind (byte ∷ folder) path) name (passed is_name (after_slash (behind (byte ∷ folder) path)) name e) in
    behind_some_is (byte ∷ folder) path (47 ∷ name) is ∙ sym (append_assoc (byte ∷ folder) (47 ∷ []) name)

same_cmp : (b : ℕ) → nat_cmp b b ≡ Equal
same_cmp b =
    let less : nat_lt b b ≡ false = grind (arith, nat_tests) in
    let equal : (b == b) ≡ true = grind (arith, nat_tests) in
    ap (λ t. cond t Less (cond (b == b) Equal Greater)) less ∙ ap (λ t. cond t Equal Greater) equal

slice_cmp-front : (front a b : List ℕ) → slice_cmp nat_cmp (front ++ a) (front ++ b) ≡ slice_cmp nat_cmp a b
slice_cmp-front [] a b = refl
slice_cmp-front (x ∷ front) a b =
    ap (λ o. ordering_then o (slice_cmp nat_cmp (front ++ a) (front ++ b))) (same_cmp x) ∙ slice_cmp-front front a b

-- ---- look-ups

pub at_head : {A : Type 0} (path : List ℕ) (k : String A) → is_at (λ k. slice_cmp nat_cmp path (string_bytes k)) k ≡ bytes_eq path (string_bytes k)
at_head path k = is_eq-slice_cmp path (string_bytes k)

IsSome-cond : (b : Bool) (x : Item) (r : Option Item) → IsSome r → IsSome (cond b (Some x) r)
IsSome-cond true x r some = refl
IsSome-cond false x r some = some

held_head : {A : Type 0} (e : String A × Item) (es : List (String A × Item)) → IsSome (held (e ∷ es) (string_bytes e.0))
held_head e es =
    let is : is_at (λ k. slice_cmp nat_cmp (string_bytes e.0) (string_bytes k)) e.0 ≡ true =
    at_head (string_bytes e.0) e.0 ∙ (bytes_eq-Decides (string_bytes e.0) (string_bytes e.0)).1 refl in
    subst (λ b. IsSome (cond b (Some e.1) (held es (string_bytes e.0)))) (sym is) refl

held_tail : {A : Type 0} (e : String A × Item) (es : List (String A × Item)) (path : List ℕ) → IsSome (held es path) → IsSome (held (e ∷ es) path)
held_tail e es path some = IsSome-cond (is_at (λ k. slice_cmp nat_cmp path (string_bytes k)) e.0) e.1 (held es path) some

-- what is held is at the head or in the tail
held_cases : {A : Type 0} (e : String A × Item) (es : List (String A × Item)) (path : List ℕ) → IsSome (held (e ∷ es) path)
    → (path ≡ string_bytes e.0) ⊎ IsSome (held es path)
held_cases e es path some =
    elim (is_at (λ k. slice_cmp nat_cmp path (string_bytes k)) e.0)
    as (λ b. is_at (λ k. slice_cmp nat_cmp path (string_bytes k)) e.0 ≡ b → IsSome (cond b (Some e.1) (held es path)) → (path ≡ string_bytes e.0) ⊎ IsSome (held es path)) [
      | true ↦ λ t some. inl ((bytes_eq-Decides path (string_bytes e.0)).0 (sym (at_head path e.0) ∙ t))
      | false ↦ λ t some. inr some
    ] refl some

-- ---- the listing

Has-front : (r : Option (List ℕ)) (names : List (List ℕ)) (name : List ℕ) → Has names name → Has (in_front r names) name
Has-front None names name has = has
Has-front (Some n) names name has = inr has

Has-cases : (r : Option (List ℕ)) (names : List (List ℕ)) (name : List ℕ) → Has (in_front r names) name → (r ≡ Some name) ⊎ Has names name
Has-cases None names name has = inr has
Has-cases (Some n) names name (inl is) = inl (ap (λ t. Some t) is)
Has-cases (Some n) names name (inr has) = inr has

Has-head : (r : Option (List ℕ)) (names : List (List ℕ)) (name : List ℕ) → r ≡ Some name → Has (in_front r names) name
Has-head r names name is = subst (λ r. Has (in_front r names) name) (sym is) (inl refl)

listed_by : {A : Type 0} (folder : List ℕ) (e : String A × Item) (es : List (String A × Item)) (path name : List ℕ)
    → name_in folder path ≡ Some name → (IsSome (held es path) → Has (names_in folder es) name)
    → (path ≡ string_bytes e.0) ⊎ IsSome (held es path) → Has (names_in folder (e ∷ es)) name
listed_by folder e es path name is rest (inl same) =
    Has-head (name_in folder (string_bytes e.0)) (names_in folder es) name (ap (name_in folder) (sym same) ∙ is)
listed_by folder e es path name is rest (inr some) =
    Has-front (name_in folder (string_bytes e.0)) (names_in folder es) name (rest some)

listed : {A : Type 0} (folder : List ℕ) (es : List (String A × Item)) (path name : List ℕ)
    → name_in folder path ≡ Some name → IsSome (held es path) → Has (names_in folder es) name
listed folder [] path name is some = absurd (cc some)
listed folder (e ∷ es) path name is some =
    listed_by folder e es path name is (λ there. listed folder es path name is there) (held_cases e es path some)

-- a name, and a path in the folder that has it and holds something
abbrev IsAt : {A : Type 0} → List ℕ → List (String A × Item) → List ℕ → Type 0
IsAt folder es name = (path : List ℕ) × (name_in folder path ≡ Some name) × IsSome (held es path)

only_by : {A : Type 0} (folder : List ℕ) (e : String A × Item) (es : List (String A × Item)) (name : List ℕ)
    → (Has (names_in folder es) name → IsAt folder es name)
    → (name_in folder (string_bytes e.0) ≡ Some name) ⊎ Has (names_in folder es) name → IsAt folder (e ∷ es) name
only_by folder e es name rest (inl is) = (string_bytes e.0, is, held_head e es)
only_by folder e es name rest (inr has) =
    let more = rest has in (more.0, more.1, held_tail e es more.0 more.2)

only_listed : {A : Type 0} (folder : List ℕ) (es : List (String A × Item)) (name : List ℕ)
    → Has (names_in folder es) name → IsAt folder es name
only_listed folder [] name has = absurd has
only_listed folder (e ∷ es) name has =
    only_by folder e es name (λ there. only_listed folder es name there) (Has-cases (name_in folder (string_bytes e.0)) (names_in folder es) name has)

-- names of later paths are later
abbrev AreLater : List ℕ → List (List ℕ) → Type 0
AreLater name names = AllByRecursion (λ n. slice_cmp nat_cmp name n ≡ Less) names

later_by : (folder path name other : List ℕ) (names : List (List ℕ)) (r : Option (List ℕ)) → name_in folder path ≡ Some name
    → slice_cmp nat_cmp path other ≡ Less → name_in folder other ≡ r → AreLater name names → AreLater name (in_front r names)
later_by folder path name other names None is less none rest = rest
later_by folder path name other names (Some n) is less some rest = (
  sym (slice_cmp-front (front_of folder) name n)
      ∙ (λ i. slice_cmp nat_cmp (sym (name_path folder path name is) i) (sym (name_path folder other n some) i)) ∙ less,
  rest,
)

all_later : {A : Type 0} (folder path name : List ℕ) (es : List (String A × Item)) → name_in folder path ≡ Some name
    → AllByRecursion (λ k. slice_cmp nat_cmp path (string_bytes k) ≡ Less) (keys_of es) → AreLater name (names_in folder es)
all_later folder path name [] is later = tt
all_later folder path name (e ∷ es) is later =
    later_by folder path name (string_bytes e.0) (names_in folder es) (name_in folder (string_bytes e.0)) is later.0 refl
    (all_later folder path name es is later.1)

ascending_by : (names : List (List ℕ)) (r : Option (List ℕ)) → ((n : List ℕ) → r ≡ Some n → AreLater n names)
    → IsStrictlySortedBy (slice_cmp nat_cmp) names → IsStrictlySortedBy (slice_cmp nat_cmp) (in_front r names)
unfolding IsStrictlySortedBy
ascending_by names None later rest = rest
ascending_by names (Some n) later rest = (later n refl, rest)

ascending : {A : Type 0} (folder : List ℕ) (es : List (String A × Item)) → IsStrictlySortedBy string_cmp (keys_of es)
    → IsStrictlySortedBy (slice_cmp nat_cmp) (names_in folder es)
unfolding IsStrictlySortedBy
ascending folder [] sorted = tt
ascending folder (e ∷ es) sorted =
    ascending_by (names_in folder es) (name_in folder (string_bytes e.0))
    (λ n some. all_later folder (string_bytes e.0) n es some sorted.0)
    (ascending folder es sorted.1)

pub listing : {A : Type 0} (folder : List ℕ) (es : List (String A × Item)) → IsStrictlySortedBy string_cmp (keys_of es)
    → IsListing (held es) folder (names_in folder es)
listing folder es sorted = record {
  ascending = ascending folder es sorted;
  all = listed folder es;
  only = only_listed folder es;
}

-- ---- empty and full folders

abbrev IsHeldIn : {A : Type 0} → List ℕ → List (String A × Item) → Type 0
IsHeldIn folder es = (path : List ℕ) × IsSome (name_in folder path) × IsSome (held es path)

full_by : {A : Type 0} (folder : List ℕ) (e : String A × Item) (es : List (String A × Item)) (r : Option (List ℕ))
    → name_in folder (string_bytes e.0) ≡ r → true ≡ (is_some r || has_names folder es) → (true ≡ has_names folder es → IsHeldIn folder es) → IsHeldIn folder (e ∷ es)
full_by folder e es (Some n) some has rest = (string_bytes e.0, ap is_some some, held_head e es)
full_by folder e es None none has rest = let more = rest has in (more.0, more.1, held_tail e es more.0 more.2)

pub full : {A : Type 0} (folder : List ℕ) (es : List (String A × Item)) → true ≡ has_names folder es
    → (path : List ℕ) × IsSome (name_in folder path) × IsSome (held es path)
full folder [] has = absurd (cc has)
full folder (e ∷ es) has =
    full_by folder e es (name_in folder (string_bytes e.0)) refl has (λ there. full folder es there)

or_parts : (a b : Bool) → false ≡ (a || b) → (false ≡ a) × (false ≡ b)
or_parts true b none = absurd (cc none)
or_parts false b none = (refl, none)

pub empty : {A : Type 0} (folder : List ℕ) (es : List (String A × Item)) → false ≡ has_names folder es
    → (path : List ℕ) → IsSome (name_in folder path) → held es path ≡ None
empty folder [] none path some = refl
empty folder (e ∷ es) none path some =
    let parts = or_parts (is_some (name_in folder (string_bytes e.0))) (has_names folder es) none in
    elim (is_at (λ k. slice_cmp nat_cmp path (string_bytes k)) e.0)
    as (λ b. is_at (λ k. slice_cmp nat_cmp path (string_bytes k)) e.0 ≡ b → cond b (Some e.1) (held es path) ≡ None) [
      | true ↦ λ t. (
          let same : path ≡ string_bytes e.0 = (bytes_eq-Decides path (string_bytes e.0)).0 (sym (at_head path e.0) ∙ t) in
          let there : is_some (name_in folder (string_bytes e.0)) ≡ true = ap (λ p. is_some (name_in folder p)) (sym same) ∙ some in
          let clash : false ≡ true = parts.0 ∙ there in
          absurd (cc clash)
          )
      | false ↦ λ t. empty folder es parts.1 path some
    ] refl
