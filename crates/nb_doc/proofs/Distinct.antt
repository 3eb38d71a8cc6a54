-- Going over ids with a set of those before.
use Rattle.std.proofs.Common.{◌≡◌, ◌<◌, ℕ, suc, ◌+◌, List, [], ◌∷◌, length, drop, get_or, drop-cons, Bool, true, false, not, ◌&&◌, ◌||◌, Some, refl, sym, ap, ap₂, ◌∙◌, subst, arith}
use Rattle.std.proofs.lemmas.Bool.{true≢false}
use Rattle.std.specs.Prelude.{if◌then◌else◌}
use Rattle.std.specs.List.{list_all}
use Rattle.std.specs.Str.{bytes_eq}
use Rattle.nb_doc.specs.declared.draft.Draft.{Draft}
use Rattle.nb_doc.specs.declared.notebook.Cell.{Cell}
use Rattle.nb_doc.specs.Documents.{ids}
use Rattle.nb_doc.specs.Ids.{is_among, are_distinct, IsSetOf, with_id, standing}
use Rattle.nb_doc.proofs.Among.{swapped}

-- none of these ids is in the set
abbrev pub fresh : List (List ℕ) → List (List ℕ) → Bool
fresh names ids = list_all (λ id. not (is_among names id)) ids

-- a set of the ids before those that are left
pub record IsReading (names all rest : List (List ℕ)) : Type 0 where
  pub distinct : (fresh names rest && are_distinct rest) ≡ are_distinct all
  pub same : (id : List ℕ) → (is_among names id || is_among rest id) ≡ is_among all id
  pub len : length names + length rest ≡ length all

fresh-nil : (ids : List (List ℕ)) → fresh [] ids ≡ true
fresh-nil [] = refl
fresh-nil (id ∷ ids) = fresh-nil ids

pub begins : (all : List (List ℕ)) → IsReading [] all all
begins all = record { distinct = ap (λ b. b && are_distinct all) (fresh-nil all); same = λ id. refl; len = omega arith }

not_either : (a b f g : Bool) → (not (a || b) && (f && not g)) ≡ ((not b && f) && not (a || g))
not_either true true f g = refl
not_either true false true true = refl
not_either true false true false = refl
not_either true false false g = refl
not_either false true f g = refl
not_either false false f g = refl

-- with one more id in the set
fresh_more : (names now : List (List ℕ)) (x : List ℕ) → ((id : List ℕ) → is_among now id ≡ (bytes_eq id x || is_among names id)) → (ids : List (List ℕ)) → fresh now ids ≡ (fresh names ids && not (is_among ids x))
fresh_more names now x h [] = refl
fresh_more names now x h (y ∷ ys) =
    ap₂ (λ a b. not a && b) (h y ∙ ap (λ t. t || is_among names y) (swapped y x)) (fresh_more names now x h ys)
    ∙ not_either (bytes_eq x y) (is_among names y) (fresh names ys) (is_among ys x)

regroup : (m f g d : Bool) → m ≡ false → ((f && not g) && d) ≡ ((not m && f) && (not g && d))
regroup true f g d h = cc
regroup false true g d h = refl
regroup false false g d h = refl

or_regroup : (a b c : Bool) → ((a || b) || c) ≡ (b || (a || c))
or_regroup true true c = refl
or_regroup true false c = refl
or_regroup false b c = refl

pub one_more : (names now all rest : List (List ℕ)) (x : List ℕ) → IsReading names all (x ∷ rest) → is_among names x ≡ false → ((id : List ℕ) → is_among now id ≡ (bytes_eq id x || is_among names id))
    → length now ≡ length names + 1 → IsReading now all rest
one_more names now all rest x r new members more = record {
  distinct =
      ap (λ b. b && are_distinct rest) (fresh_more names now x members rest)
      ∙ regroup (is_among names x) (fresh names rest) (is_among rest x) (are_distinct rest) new
      ∙ r.distinct;
  same = λ id. ap (λ b. b || is_among rest id) (members id) ∙ or_regroup (bytes_eq id x) (is_among names id) (is_among rest id) ∙ r.same id;
  len = omega arith;
}

pub repeated : (names all rest : List (List ℕ)) (x : List ℕ) → IsReading names all (x ∷ rest) → is_among names x ≡ true → are_distinct all ≡ false
repeated names all rest x r old = sym r.distinct ∙ ap (λ b. (not b && fresh names rest) && are_distinct (x ∷ rest)) old

or_none : (b : Bool) → (b || false) ≡ b
or_none true = refl
or_none false = refl

pub ends_distinct : (names all : List (List ℕ)) → IsReading names all [] → are_distinct all ≡ true
ends_distinct names all r = sym r.distinct

pub ends : (names all : List (List ℕ)) → IsReading names all [] → IsSetOf names all
ends names all r = record { same = λ id. sym (or_none (is_among names id)) ∙ r.same id; len = omega arith }

-- ---- the ids of drafts

pub standing_step : (ds : List Draft) (i : ℕ) (d : Draft) → i < length ds → d ≡ get_or ds i d → standing (drop i ds) ≡ with_id d.id (standing (drop (i + 1) ds))
standing_step ds i d h is =
    let next : suc i ≡ i + 1 = omega arith in
    ap standing (drop-cons ds i d h) ∙ ap₂ (λ x n. with_id x.id (standing (drop n ds))) (sym is) next

-- the id of a draft is new
pub more_ids : (names now : List (List ℕ)) (id : List ℕ) (ds : List Draft) (i : ℕ) (d : Draft) → IsReading names (standing ds) (standing (drop i ds)) → i < length ds → d ≡ get_or ds i d → d.id ≡ Some id
    → is_among names id ≡ false → ((q : List ℕ) → is_among now q ≡ (bytes_eq q id || is_among names q)) → length now ≡ length names + 1 → IsReading now (standing ds) (standing (drop (i + 1) ds))
more_ids names now id ds i d r h is some new members more =
    let here : standing (drop i ds) ≡ id ∷ standing (drop (i + 1) ds) = standing_step ds i d h is ∙ ap (λ o. with_id o (standing (drop (i + 1) ds))) some in
    let P : List (List ℕ) → Type 0 = λ rest. IsReading names (standing ds) rest in
    one_more names now (standing ds) (standing (drop (i + 1) ds)) id (subst P here r) new members more

-- ---- the ids of cells

-- the id of a cell is new, where no id stands twice
pub more_cells : (names now : List (List ℕ)) (cs : List Cell) (i : ℕ) (c : Cell) → are_distinct (ids cs) ≡ true → IsReading names (ids cs) (ids (drop i cs)) → i < length cs → c ≡ get_or cs i c
    → ((q : List ℕ) → is_among now q ≡ (bytes_eq q c.id || is_among names q)) → length now ≡ length names + (if not (is_among names c.id) then 1 else 0) → IsReading now (ids cs) (ids (drop (i + 1) cs))
more_cells names now cs i c once r h is members more =
    let next : suc i ≡ i + 1 = omega arith in
    let here : ids (drop i cs) ≡ c.id ∷ ids (drop (i + 1) cs) = ap ids (drop-cons cs i c h) ∙ ap₂ (λ x n. x.id ∷ ids (drop n cs)) (sym is) next in
    let P : List (List ℕ) → Type 0 = λ rest. IsReading names (ids cs) rest in
    let reading = subst P here r in
    let new : is_among names c.id ≡ false = go (is_among names c.id) refl reading in
    one_more names now (ids cs) (ids (drop (i + 1) cs)) c.id reading new members (more ∙ ap (λ b. length names + (if not b then 1 else 0)) new)
  where
    go : (b : Bool) → is_among names c.id ≡ b → IsReading names (ids cs) (c.id ∷ ids (drop (i + 1) cs)) → b ≡ false
    go true e reading = absurd (true≢false (sym once ∙ repeated names (ids cs) (ids (drop (i + 1) cs)) c.id reading e))
    go false e reading = refl
