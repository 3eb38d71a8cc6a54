-- What a recorder that was told nothing holds.
use Rattle.std.proofs.Common.{◌≡◌, ℕ, List, [], ◌∷◌, Bool, true, false, Option, None, refl, ap, ◌∙◌}
use Rattle.std.specs.Prelude.{◌||◌}
use Rattle.std.specs.List.{list_any}
use Rattle.std.specs.Str.{bytes_eq}
use Rattle.std.proofs.lemmas.Slice.Eq.{bytes_eq-Decides}
use Rattle.nb_doc.specs.declared.notebook.Notebook.{Notebook}
use Rattle.nb_doc.specs.Ids.{is_among}
use Rattle.nb_record.specs.declared.pages.Pages.{Pages}
use Rattle.nb_record.specs.Book.{book}
use Rattle.nb_record.specs.State.{RecorderState, StandsAt}
use Rattle.js_rest.specs.Opening.{fresh, recorder_of}

clash : (a b : Bool) → a ≡ true → (a || b) ≡ false → ⊥
clash true b e h = cc
clash false b e h = cc

no_names : (names : List (List ℕ)) → ((id : List ℕ) → is_among names id ≡ false) → names ≡ []
no_names [] h = refl
no_names (x ∷ xs) h = absurd (clash (bytes_eq x x) (list_any (bytes_eq x) xs) ((bytes_eq-Decides x x).1 refl) (h x))

abbrev pages_of : Notebook → List (List ℕ) → Option (List ℕ) → Bool → Pages
pages_of n names id goes = record { notebook = n; executed = names; current = id; lasts = goes }

fresh_pages : (p : Pages) (n : Notebook) → StandsAt p n [] → p ≡ fresh n
fresh_pages p n h =
    ap (λ (x : Notebook). pages_of x p.executed p.current p.lasts) h.notebook
    ∙ ap (λ (x : List (List ℕ)). pages_of (book n []) x p.current p.lasts) (no_names p.executed h.executed)
    ∙ ap (λ (x : Option (List ℕ)). pages_of (book n []) [] x p.lasts) h.current
    ∙ ap (λ (x : Bool). pages_of (book n []) [] None x) h.lasts

abbrev state_of : List ℕ → Pages → RecorderState
state_of path p = record { path = path; pages = p }

pub fresh_recorder : (s : RecorderState) (path : List ℕ) (n : Notebook) → s.path ≡ path → StandsAt s.pages n [] → s ≡ recorder_of path n
fresh_recorder s path n e h =
    ap (λ (x : List ℕ). state_of x s.pages) e ∙ ap (λ (x : Pages). state_of path x) (fresh_pages s.pages n h)
