-- Two steps over a shelf, of which the first only reads.
use Rattle.std.specs.Result.{is_err, OnOk}
use Rattle.std.proofs.Common.{◌≡◌, false, ℕ, ◌+◌, ◌<◌, List, [], ◌∷◌, ◌++◌, length, take, get_or, Result, Ok, Err, sym, ap, ◌∙◌, subst}
use Rattle.std.proofs.lemmas.List.{map_more}
use Rattle.serde_json.specs.Data.{Data}
use Rattle.js_shelf.specs.Shelves.{Contents, Same}
use Rattle.js_tables.specs.declared.forms.About.{About}
use Rattle.js_tables.specs.declared.plan.Plan.{Plan}
use Rattle.js_tables.specs.declared.refusal.Refusal.{Refusal}
use Rattle.js_tables.specs.Tables.{Rows}
use Rattle.js_contents.specs.Lists.{object, objects}
use Rattle.js_contents.specs.Looks.{HasNames}
use Rattle.js_contents.specs.Reads.{ShowsNamed, ShowsFolder}
use Rattle.js_contents.proofs.Telling.{same_is}

pub folder_ok : (r : Rows) (about : About) (names : List (List ℕ)) (found : Result Plan Refusal) (m k n : Contents) → HasNames about.path (Ok names) m k → ShowsNamed r about names found k n → ShowsFolder r about found m n
folder_ok r about names found m k n h j =
    let moved : ShowsNamed r about names found m n = subst (λ x. ShowsNamed r about names found x n) (same_is m k h.0) j in
    (moved.0, (Ok names, h.1, moved.1))

-- one more object of a folder's
pub objects_more : (r : Rows) (folder : List ℕ) (names : List (List ℕ)) (i : ℕ) (item name : List ℕ) (row more : List Data) (d : Data)
    → i < length names → item ≡ get_or names i item → name ≡ item → more ≡ row ++ d ∷ []
    → (m k n : Contents) → Same m k × (row ≡ objects m r folder (take i names)) → Same k n × (d ≡ object k r folder name)
    → Same m n × (more ≡ objects m r folder (take (i + 1) names))
objects_more r folder names i item name row more d within is named grown m k n h j =
    let moved : Same m n × (d ≡ object m r folder name) = subst (λ x. Same x n × (d ≡ object x r folder name)) (same_is m k h.0) j in (
      moved.0,
      grown ∙ ap (λ ds. ds ++ d ∷ []) h.1 ∙ ap (λ x. objects m r folder (take i names) ++ x ∷ []) (moved.1 ∙ ap (object m r folder) (named ∙ is))
          ∙ sym (map_more (object m r folder) names i item within),
    )

pub ok_there : {E : Type 0} (r : Result (Unit {0}) E) (P : Type 0) → is_err r ≡ false → OnOk r P → P
ok_there (Ok done) P e h = h
ok_there (Err x) P e h = cc
