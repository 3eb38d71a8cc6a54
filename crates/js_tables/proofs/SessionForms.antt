-- The forms of sessions, a kernel at a time.
use Rattle.std.proofs.Common.{◌≡◌, ℕ, ◌+◌, ◌<◌, List, [], ◌∷◌, ◌++◌, length, take, get_or, Option, Some, None, refl, sym, ap, ◌∙◌}
use Rattle.std.proofs.lemmas.List.{take_more}
use Rattle.serde_json.specs.Data.{Data}
use Rattle.js_tables.specs.declared.tables.Kernel.{Kernel}
use Rattle.js_tables.specs.declared.tables.Session.{Session}
use Rattle.js_tables.specs.Forms.{onto, with_form, session_forms}

first : (k : Kernel) (t : Option Session) → onto k t [] ≡ with_form [] k t
first k None = refl
first k (Some t) = refl

later : (x : Kernel) (s : Option Session) (ds : List Data) (k : Kernel) (t : Option Session) → onto x s (with_form ds k t) ≡ with_form (onto x s ds) k t
later x None ds k None = refl
later x None ds k (Some t) = refl
later x (Some s) ds k None = refl
later x (Some s) ds k (Some t) = refl

session_forms-append : (ks : List Kernel) (k : Kernel) → session_forms (ks ++ k ∷ []) ≡ with_form (session_forms ks) k k.session
session_forms-append [] k = first k k.session
session_forms-append (x ∷ ks) k =
    ap (onto x x.session) (session_forms-append ks k) ∙ later x x.session (session_forms ks) k k.session

pub forms_more : (ks : List Kernel) (i : ℕ) (k : Kernel) → i < length ks → k ≡ get_or ks i k → session_forms (take (i + 1) ks) ≡ with_form (session_forms (take i ks)) k k.session
forms_more ks i k lt e =
    ap session_forms (take_more ks i k lt) ∙ session_forms-append (take i ks) (get_or ks i k)
    ∙ ap (λ x. with_form (session_forms (take i ks)) x x.session) (sym e)
