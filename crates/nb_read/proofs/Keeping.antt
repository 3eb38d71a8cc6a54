-- Values that are kept.
use Rattle.std.proofs.Common.{◌≡◌, List, [], ◌∷◌, ◌++◌, map, Bool, false, ◌||◌, Ordering, Less, Equal, Greater, refl, ap, ◌∙◌, ℕ}
use Rattle.std.proofs.lemmas.Bool.{or_parts}
use Rattle.std.specs.Ordering.{match_ordering}
use Rattle.std.specs.declared.alloc.Global.{Global}
use Rattle.json.specs.declared.value.Value.{Value}
use Rattle.serde_json.specs.Data.{Data, array, Members, no_members, member, put}
use Rattle.serde_json.specs.View.{view, items_of, items_view}
use Rattle.serde_json.specs.Written.{has_float, items_have_float, members_have_float}
use Rattle.serde_json.specs.declared.value.Value.{Value as Owned}
use Rattle.nb_read.specs.Lent.{data_view, items_data}

items_are : (vs : List (Value Global)) → items_of (map data_view vs) ≡ items_data vs
items_are [] = refl
items_are (v ∷ vs) = rw (items_are vs) refl

-- an array whose items were kept
pub array_is : (os : List Owned) (vs : List (Value Global)) → map view os ≡ map data_view vs → array (items_view os) ≡ array (items_data vs)
array_is os vs e = ap (λ ds. array (items_of ds)) e ∙ ap array (items_are vs)

neither : (a b : Bool) → a ≡ false → b ≡ false → (a || b) ≡ false
neither a b p q = rw (p, q) refl

pub items_more : (os : List Owned) (o : Owned) → items_have_float (items_view os) ≡ false → has_float (view o) ≡ false → items_have_float (items_view (os ++ o ∷ [])) ≡ false
items_more [] o h k = neither _ false k refl
items_more (p ∷ os) o h k =
    let parts = or_parts (has_float (view p)) (items_have_float (items_view os)) h in
    neither _ _ parts.0 (items_more os o parts.1 k)

one_of : (o : Ordering) (a b c : Members) → members_have_float a ≡ false → members_have_float b ≡ false → members_have_float c ≡ false → members_have_float (match_ordering o a b c) ≡ false
one_of Less a b c p q r = p
one_of Equal a b c p q r = q
one_of Greater a b c p q r = r

pub put_whole : (k : List ℕ) (d : Data) (ms : Members) → has_float d ≡ false → members_have_float ms ≡ false → members_have_float (put k d ms) ≡ false
put_whole k d no_members p q = neither (has_float d) false p refl
put_whole k d (member l e ms) p q =
    let parts = or_parts (has_float e) (members_have_float ms) q in
    one_of _ (member k d (member l e ms)) (member l d ms) (member l e (put k d ms)) (neither (has_float d) _ p q) (neither (has_float d) _ p parts.1) (neither (has_float e) _ parts.0 (put_whole k d ms p parts.1))
