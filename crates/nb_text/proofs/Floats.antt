-- The parts of a value that has no float have none.
use Rattle.std.proofs.Common.{◌≡◌, ℕ, ◌+◌, ◌<◌, List, ◌∷◌, drop, get_or, length, false, sym, ap, ◌∙◌}
use Rattle.std.proofs.lemmas.Bool.{or_parts}
use Rattle.std.proofs.lemmas.List.{drop_more}
use Rattle.serde_json.specs.View.{view, items_view}
use Rattle.serde_json.specs.Written.{has_float, items_have_float}
use Rattle.serde_json.specs.declared.value.Value.{Value}

pub item_whole : (vs : List Value) (i : ℕ) (v : Value) → i < length vs → v ≡ get_or vs i v → items_have_float (items_view (drop i vs)) ≡ false
    → (has_float (view v) ≡ false) × (items_have_float (items_view (drop (i + 1) vs)) ≡ false)
item_whole vs i v below is h =
    let here : drop i vs ≡ v ∷ drop (i + 1) vs = drop_more vs i v below ∙ ap (λ y. y ∷ drop (i + 1) vs) (sym is) in
    or_parts (has_float (view v)) (items_have_float (items_view (drop (i + 1) vs))) (ap (λ ys. items_have_float (items_view ys)) (sym here) ∙ h)
