-- Whether a text is among others, in a set as in a list.
use Rattle.std.proofs.Common.{◌≡◌, ℕ, List, [], ◌∷◌, map, Bool, true, false, cond, not, ◌&&◌, ◌||◌, string_bytes, String, refl, sym, ap, ap₂, ◌∙◌}
use Rattle.std.proofs.lemmas.Bool.{true≢false}
use Rattle.std.proofs.lemmas.Slice.Eq.{bytes_eq-Decides}
use Rattle.std.proofs.lemmas.Map.Text.{is_eq-slice_cmp, btree_set_updates_text}
use Rattle.std.specs.List.{list_any}
use Rattle.std.specs.Ordering.{nat_cmp}
use Rattle.std.specs.Cmp.Lexicographic.{slice_cmp}
use Rattle.std.specs.Str.{bytes_eq}
use Rattle.std.specs.String.{string_cmp}
use Rattle.std.specs.BTreeMap.{is_at}
use Rattle.std.specs.BTreeSet.{BTreeSet, UpdatesBy, contains_text}
use Rattle.std.specs.declared.alloc.Global.{Global}
use Rattle.nb_doc.specs.Ids.{is_among}

pub same_itself : (a : List ℕ) → bytes_eq a a ≡ true
same_itself a = (bytes_eq-Decides a a).1 refl

pub same_if : (a b : List ℕ) → bytes_eq a b ≡ true → a ≡ b
same_if a b h = (bytes_eq-Decides a b).0 h

pub apart : (a b : List ℕ) → ¬ (a ≡ b) → bytes_eq a b ≡ false
apart a b n = go (bytes_eq a b) refl
  where
    go : (t : Bool) → bytes_eq a b ≡ t → t ≡ false
    go true h = absurd (n (same_if a b h))
    go false h = refl

pub swapped : (a b : List ℕ) → bytes_eq a b ≡ bytes_eq b a
swapped a b = go (bytes_eq a b) (bytes_eq b a) refl refl
  where
    go : (s t : Bool) → bytes_eq a b ≡ s → bytes_eq b a ≡ t → s ≡ t
    go true true h k = refl
    go false false h k = refl
    go true false h k = absurd (true≢false (sym (same_itself a) ∙ ap (λ x. bytes_eq x a) (same_if a b h) ∙ k))
    go false true h k = absurd (true≢false (sym (same_itself b) ∙ ap (λ x. bytes_eq x b) (same_if b a k) ∙ h))

-- ---- the keys of a set

abbrev pub bytes_of : BTreeSet (String Global) → List (List ℕ)
bytes_of s = map (λ k. string_bytes k) s.keys

among_keys : (q : List ℕ) (ks : List (String Global)) → is_among (map (λ k. string_bytes k) ks) q ≡ list_any (is_at (λ k. slice_cmp nat_cmp q (string_bytes k))) ks
among_keys q [] = refl
among_keys q (k ∷ ks) = ap₂ (λ a b. a || b) (sym (is_eq-slice_cmp q (string_bytes k))) (among_keys q ks)

pub among_set : (q : List ℕ) (s : BTreeSet (String Global)) → is_among (bytes_of s) q ≡ contains_text s q
among_set q s = among_keys q s.keys

either : (b x : Bool) → cond b true x ≡ (b || x)
either true x = refl
either false x = refl

without : (b x : Bool) → cond b false x ≡ (not b && x)
without true x = refl
without false x = refl

pub added_members : (bs : List ℕ) (s n : BTreeSet (String Global)) → UpdatesBy string_cmp (λ k. slice_cmp nat_cmp bs (string_bytes k)) s n true → (id : List ℕ)
    → is_among (bytes_of n) id ≡ (bytes_eq id bs || is_among (bytes_of s) id)
added_members bs s n h id =
    among_set id n ∙ btree_set_updates_text bs s n true h id ∙ either (bytes_eq bs id) (contains_text s id) ∙ ap₂ (λ a b. a || b) (swapped bs id) (sym (among_set id s))

pub removed_members : (bs : List ℕ) (s n : BTreeSet (String Global)) → UpdatesBy string_cmp (λ k. slice_cmp nat_cmp bs (string_bytes k)) s n false → (id : List ℕ)
    → is_among (bytes_of n) id ≡ (not (bytes_eq id bs) && is_among (bytes_of s) id)
removed_members bs s n h id =
    among_set id n ∙ btree_set_updates_text bs s n false h id ∙ without (bytes_eq bs id) (contains_text s id) ∙ ap₂ (λ a b. not a && b) (swapped bs id) (sym (among_set id s))
