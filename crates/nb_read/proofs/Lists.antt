-- A loop over the items of a list that makes a list.
use Rattle.std.proofs.Common.{◌≡◌, ℕ, ◌+◌, ◌<◌, ◌≤◌, List, [], ◌∷◌, ◌++◌, length, drop, get_or, sym, ap, ◌∙◌, subst, append_assoc, append-nil}
use Rattle.std.proofs.lemmas.List.{drop_more, drop_all}
use Rattle.std.specs.declared.alloc.Global.{Global}
use Rattle.json.specs.declared.value.Value.{Value}
use Rattle.serde_json.specs.Data.{Data}
use Rattle.nb_doc.specs.TextForms.{Members}
use Rattle.nb_read.specs.Lent.{data_view, items_data}

-- what was made of the items so far, with what those that are left are, is all
abbrev pub Grows : {A : Type 0} → (Data → A → Type 0) → List (Value Global) → ℕ → List A → Type 0
Grows {A} P vs i found = (ys : List A) → Members P (items_data (drop i vs)) ys → Members P (items_data vs) (found ++ ys)

pub begins : {A : Type 0} (P : Data → A → Type 0) (vs : List (Value Global)) → Grows P vs 0 []
begins P vs ys m = m

pub one_more : {A : Type 0} (P : Data → A → Type 0) (vs : List (Value Global)) (i : ℕ) (v : Value Global) (found : List A) (x : A) → Grows P vs i found → i < length vs → v ≡ get_or vs i v → P (data_view v) x
    → Grows P vs (i + 1) (found ++ x ∷ [])
one_more P vs i v found x grows h is holds ys m =
    let here : drop i vs ≡ v ∷ drop (i + 1) vs = drop_more vs i v h ∙ ap (λ y. y ∷ drop (i + 1) vs) (sym is) in
    let front : Members P (items_data (drop i vs)) (x ∷ ys) = subst (λ l. Members P (items_data l) (x ∷ ys)) (sym here) (holds, m) in
    subst (λ l. Members P (items_data vs) l) (sym (append_assoc found (x ∷ []) ys)) (grows (x ∷ ys) front)

pub ends : {A : Type 0} (P : Data → A → Type 0) (vs : List (Value Global)) (i : ℕ) (found : List A) → Grows P vs i found → length vs ≤ i → Members P (items_data vs) found
ends P vs i found grows h =
    let none : Members P (items_data (drop i vs)) [] = subst (λ l. Members P (items_data l) []) (sym (drop_all i vs h)) tt in
    subst (λ l. Members P (items_data vs) l) (append-nil found) (grows [] none)
