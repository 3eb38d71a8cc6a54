-- A table of texts in another order.
use Rattle.std.proofs.Common.{◌≡◌, ℕ, Bool, true, false, cond, List, [], ◌∷◌, Option, Some, None, refl, sym, ap, ◌∙◌, subst}
use Rattle.std.specs.Prelude.{String, string_bytes}
use Rattle.std.specs.Map.{lookup, lookup_key}
use Rattle.std.specs.HashMap.{HashMap, get, get_by_text}
use Rattle.std.specs.String.{string_eq}
use Rattle.std.specs.Str.{bytes_eq}
use Rattle.std.proofs.lemmas.Map.Made.{lookup_key_passes}
use Rattle.std.proofs.lemmas.Slice.Eq.{bytes_eq-Decides}

-- where no key passes, nothing is found
none_found : {K X : Type 0} (test : K → Bool) (es : List (K × X)) → lookup_key test es ≡ None → lookup test es ≡ None
none_found test [] none = refl
none_found test (e ∷ es) none =
    elim (test e.0) as (λ b. cond b (Some e.0) (lookup_key test es) ≡ None → cond b (Some e.1) (lookup test es) ≡ None) [
      | true ↦ λ none. absurd (cc none)
      | false ↦ λ none. none_found test es none
    ] none

-- what is found by each key in both is found by each text in both
pub same_by_text : {A X S : Type 0} (m n : HashMap (String A) X S) → ((key : String A) → get string_eq n key ≡ get string_eq m key)
    → (text : List ℕ) → get_by_text n text ≡ get_by_text m text
same_by_text {A} m n same text = by_key (lookup_key test m.entries) (lookup_key test n.entries) refl refl
  where
    test : String A → Bool
    test key = bytes_eq text (string_bytes key)

    at_key : (key : String A) → test key ≡ true → get_by_text n text ≡ get_by_text m text
    at_key key passes =
        let is = (bytes_eq-Decides text (string_bytes key)).0 passes in
        subst (λ t. get_by_text n t ≡ get_by_text m t) (sym is) (same key)

    by_key : (j k : Option (String A)) → lookup_key test m.entries ≡ j → lookup_key test n.entries ≡ k → get_by_text n text ≡ get_by_text m text
    by_key (Some key) k found other = at_key key (lookup_key_passes test m.entries key found)
    by_key None (Some key) none found = at_key key (lookup_key_passes test n.entries key found)
    by_key None None none other = none_found test n.entries other ∙ sym (none_found test m.entries none)
