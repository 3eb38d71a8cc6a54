-- A notebook whose cells have ids of their own.
use Rattle.std.proofs.Common.{◌≡◌, ◌<◌, ◌+◌, ℕ, suc, pos, List, [], ◌∷◌, length, drop, get_or, drop-cons, true, false, ◌||◌, codes, Some, Result, Ok, Err, refl, inl, sym, ap, ap₂, ◌∙◌, subst, arith}
use Rattle.std.specs.List.{list_all}
use Rattle.serde_json.specs.Data.{Data, Items, no_items, item}
use Rattle.json_form.specs.Forms.{Has, whole_of, object_of}
use Rattle.nb_doc.specs.declared.notebook.Notebook.{Notebook}
use Rattle.nb_doc.specs.declared.notebook.Cell.{Cell}
use Rattle.nb_doc.specs.Documents.{ids}
use Rattle.std.specs.Str.{bytes_eq}
use Rattle.nb_doc.specs.Ids.{is_allowed, is_among, are_distinct}
use Rattle.nb_doc.proofs.Distinct.{IsReading, one_more}
use Rattle.nb_doc.specs.Reading.{age_by}
use Rattle.nb_doc.specs.TextForms.{Members, IsCellOf, AreIds, ids_in, IsNotebook}
use Rattle.nb_read.specs.Own.{IsOwnCell, HasCells}

abbrev IsGood : {A E : Type 0} → Result A E → Type 0
IsGood (Ok x) = Unit {0}
IsGood (Err e) = ⊥

abbrev value_of : {A E : Type 0} → (r : Result A E) → IsGood r → A
value_of (Ok x) h = x
value_of (Err e) h = absurd h

-- the ids are those of 4.5, which stand there
abbrev AreOwn : List (List ℕ) → Items → List Cell → Type 0
AreOwn taken ds cs = AreIds (value_of (age_by (Some (pos 4)) (Some (pos 5))) tt) taken ds cs

ids_hold : (taken : List (List ℕ)) (ds : Items) (cs : List Cell) → Members IsOwnCell ds cs → AreOwn taken ds cs
ids_hold taken no_items [] m = tt
ids_hold taken no_items (c ∷ cs) m = absurd m
ids_hold taken (item d ds) [] m = absurd m
ids_hold taken (item d ds) (c ∷ cs) m = inl (m.0.1, ids_hold taken ds cs m.1)

ids_are : (ds : Items) (cs : List Cell) → Members IsOwnCell ds cs → ids_in ds ≡ ids cs
ids_are no_items [] m = refl
ids_are no_items (c ∷ cs) m = absurd m
ids_are (item d ds) [] m = absurd m
ids_are (item d ds) (c ∷ cs) m = rw (m.0.1, ids_are ds cs m.1) refl

cells_are : (ds : Items) (cs : List Cell) → Members IsOwnCell ds cs → Members IsCellOf ds cs
cells_are no_items [] m = tt
cells_are no_items (c ∷ cs) m = absurd m
cells_are (item d ds) [] m = absurd m
cells_are (item d ds) (c ∷ cs) m = (m.0.0, cells_are ds cs m.1)

pub notebook_is : (d : Data) (n : Notebook) → Has whole_of (codes "nbformat") d (pos 4) → Has whole_of (codes "nbformat_minor") d (pos 5) → HasCells d n.cells
    → list_all is_allowed (ids n.cells) ≡ true → are_distinct (ids n.cells) ≡ true → Has object_of (codes "metadata") d n.metadata → IsNotebook d n
notebook_is d n major minor cells allowed distinct metadata =
    let same : ids_in cells.items ≡ ids n.cells = ids_are cells.items n.cells cells.members in
    record {
      version = major;
      age = value_of (age_by (Some (pos 4)) (Some (pos 5))) tt;
      has_age = minor;
      items = cells.items;
      has_items = cells.has_items;
      cells = cells_are cells.items n.cells cells.members;
      ids = ids_hold (ids_in cells.items) cells.items n.cells cells.members;
      allowed = ap (list_all is_allowed) same ∙ allowed;
      distinct = ap are_distinct same ∙ distinct;
      metadata = metadata;
    }

-- the id of a cell is new
pub more_cells : (names now : List (List ℕ)) (cs : List Cell) (i : ℕ) (c : Cell) → IsReading names (ids cs) (ids (drop i cs)) → i < length cs → c ≡ get_or cs i c → is_among names c.id ≡ false
    → ((q : List ℕ) → is_among now q ≡ (bytes_eq q c.id || is_among names q)) → length now ≡ length names + 1 → IsReading now (ids cs) (ids (drop (i + 1) cs))
more_cells names now cs i c r h is new members more =
    let next : suc i ≡ i + 1 = omega arith in
    let here : ids (drop i cs) ≡ c.id ∷ ids (drop (i + 1) cs) = ap ids (drop-cons cs i c h) ∙ ap₂ (λ x n. x.id ∷ ids (drop n cs)) (sym is) next in
    let P : List (List ℕ) → Type 0 = λ rest. IsReading names (ids cs) rest in
    one_more names now (ids cs) (ids (drop (i + 1) cs)) c.id (subst P here r) new members more
