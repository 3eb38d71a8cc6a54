-- Pages that were changed hold what was told and the new item.
use Rattle.std.proofs.Common.{◌≡◌, ℕ, zero, suc, ◌+◌, ◌<◌, ◌^◌, List, [], ◌∷◌, ◌++◌, append_assoc, map, length, Bool, true, false, not, ◌&&◌, ◌||◌, cond, Option, Some, None, refl, sym, ap, ap₂, ◌∙◌, subst, arith}
use Rattle.std.specs.Prelude.{slice_get, slice_set, Result, Ok, Err, OnOk, OnErr}
use Rattle.std.specs.Str.{bytes_eq}
use Rattle.serde_json.specs.Data.{Data}
use Rattle.nb_doc.specs.declared.notebook.Notebook.{Notebook}
use Rattle.nb_doc.specs.declared.notebook.Cell.{Cell}
use Rattle.nb_doc.specs.declared.notebook.Output.{Output}
use Rattle.nb_doc.specs.Documents.{ids}
use Rattle.nb_doc.specs.Ids.{is_among, are_distinct}
use Rattle.nb_doc.proofs.Among.{swapped}
use Rattle.nb_record.specs.declared.event.Event.{Event}
use Rattle.nb_record.specs.declared.event.Event.TheVariants.{Begins, Writes, Puts}
use Rattle.nb_record.specs.declared.pages.Pages.{Pages}
use Rattle.nb_record.specs.Book.{Item, event, is_code_at, has_code, is_there, new_id, target, cells, cells_after, current, current_after, lasts, lasts_after, running_by, executed, executed_after, metadata, metadata_after, written, book}
use Rattle.nb_record.specs.Steps.{begun_cell, fresh_cell, wrote_cell, put_cell}
use Rattle.nb_record.specs.State.{StandsAt, running_in, Follows}
use Rattle.nb_record.proofs.Books.{ids-book, has_code-book, ids-set, begin_there, begin_new, write_there, write_gone, put_cells, new_is_new, target_there, target_new, or_true, both, neither, not_true}

abbrev pub notebook_of : List Cell → Data → Notebook
notebook_of cs d = record { cells = cs; metadata = d }

abbrev pub pages_of : List Cell → Data → List (List ℕ) → Option (List ℕ) → Bool → Pages
pages_of cs d ex now goes = record { notebook = notebook_of cs d; executed = ex; current = now; lasts = goes }

get_code : (xs : List Cell) (i : ℕ) (c : Cell) (w : List ℕ) → slice_get xs i ≡ Some c → is_code_at w c ≡ true → has_code xs w ≡ true
get_code [] i c w h e = cc
get_code (x ∷ xs) zero c w h e = let same : x ≡ c = cc in ap (λ y. is_code_at w y || has_code xs w) same ∙ ap (λ b. b || has_code xs w) e
get_code (x ∷ xs) (suc i) c w h e = ap (λ b. is_code_at w x || b) (get_code xs i c w h e) ∙ or_true (is_code_at w x)

-- ---- a cell that stands there begins

pub restarts : (p : Pages) (after : List Cell) (ex : List (List ℕ)) (w s : List ℕ) (n place : ℕ) → ((c : Cell) × (slice_get p.notebook.cells place ≡ Some c) × (is_code_at w c ≡ true)) → are_distinct (ids p.notebook.cells) ≡ true
    → ((c : Cell) → slice_get p.notebook.cells place ≡ Some c → after ≡ slice_set p.notebook.cells place (begun_cell s n c)) → ((q : List ℕ) → is_among ex q ≡ (bytes_eq q w || is_among p.executed q))
    → Follows (Begins (Some w) s n) p (pages_of after p.notebook.metadata ex (Some w) true)
restarts p after ex w s n place found once set members =
    λ base past i e st.
    let b = book base past in
    let cs = cells base past in
    let c = found.0 in
    let at : slice_get b.cells place ≡ Some c = sym (ap (λ m. slice_get m.cells place) st.notebook) ∙ found.1 in
    let distinct : are_distinct (ids b.cells) ≡ true = sym (ap (λ m. are_distinct (ids m.cells)) st.notebook) ∙ once in
    let there : has_code cs w ≡ true = sym (has_code-book base past cs w) ∙ get_code b.cells place c w at found.2 in
    let is = begin_there base past i w s n place c e distinct at found.2 there in
    let facts : metadata base (i ∷ past) ≡ metadata base past = ap (λ v. metadata_after v (metadata base past)) e in
    let t = target_there cs w there in
    record {
      notebook =
          ap (λ xs. notebook_of xs p.notebook.metadata) (set c found.1)
          ∙ ap (λ m. notebook_of (slice_set m.cells place (begun_cell s n c)) m.metadata) st.notebook
          ∙ ap₂ notebook_of (sym is) (sym facts);
      executed = λ q.
          members q ∙ ap (λ x. bytes_eq q w || x) (st.executed q)
          ∙ sym (ap (λ v. executed_after v cs q (executed base past q)) e ∙ ap (λ x. bytes_eq q x || executed base past q) t);
      current = sym (ap (λ v. current_after v cs (current base past)) e ∙ ap (λ x. Some x) t);
      lasts = sym (ap (λ v. lasts_after v (lasts past)) e);
    }

pub restarts_once : (xs after : List Cell) (w s : List ℕ) (n place : ℕ) → ((c : Cell) × (slice_get xs place ≡ Some c) × (is_code_at w c ≡ true)) → are_distinct (ids xs) ≡ true
    → ((c : Cell) → slice_get xs place ≡ Some c → after ≡ slice_set xs place (begun_cell s n c)) → are_distinct (ids after) ≡ true
restarts_once xs after w s n place found once set = ap (λ l. are_distinct (ids l)) (set found.0 found.1) ∙ ap are_distinct (ids-set xs place found.0 (begun_cell s n found.0) found.1 refl) ∙ once

-- ---- a cell that is appended begins

new_id_same : (xs ys : List Cell) (wish : Option (List ℕ)) → ids xs ≡ ids ys → new_id xs wish ≡ new_id ys wish
new_id_same xs ys None h = rw h refl
new_id_same xs ys (Some w) h = rw h refl

is_there-book : (base : Notebook) (past : List Item) (cs : List Cell) (wish : Option (List ℕ)) → is_there (map (written base past) cs) wish ≡ is_there cs wish
is_there-book base past cs None = refl
is_there-book base past cs (Some w) = has_code-book base past cs w

pub length-ids : (xs : List Cell) → length (ids xs) ≡ length xs
length-ids [] = refl
length-ids (x ∷ xs) = ap suc (length-ids xs)

pub appends : (p : Pages) (after : List Cell) (ex : List (List ℕ)) (wish : Option (List ℕ)) (id s : List ℕ) (n : ℕ) → is_there p.notebook.cells wish ≡ false → length p.notebook.cells < 2 ^ 64 → id ≡ new_id p.notebook.cells wish
    → after ≡ p.notebook.cells ++ fresh_cell id s n ∷ [] → ((q : List ℕ) → is_among ex q ≡ (bytes_eq q id || is_among p.executed q)) → Follows (Begins wish s n) p (pages_of after p.notebook.metadata ex (Some id) true)
appends p after ex wish id s n gone few named more members =
    λ base past i e st.
    let b = book base past in
    let cs = cells base past in
    let new : is_there cs wish ≡ false = sym (is_there-book base past cs wish) ∙ sym (ap (λ m. is_there m.cells wish) st.notebook) ∙ gone in
    let counts : length (ids cs) ≡ length p.notebook.cells = ap length (sym (ids-book base past cs)) ∙ length-ids b.cells ∙ sym (ap (λ m. length m.cells) st.notebook) in
    let is = begin_new base past i wish s n e new (omega arith) in
    let same : id ≡ new_id cs wish = named ∙ ap (λ m. new_id m.cells wish) st.notebook ∙ new_id_same b.cells cs wish (ids-book base past cs) in
    let facts : metadata base (i ∷ past) ≡ metadata base past = ap (λ v. metadata_after v (metadata base past)) e in
    let t : target cs wish ≡ id = target_new cs wish new ∙ sym same in
    record {
      notebook =
          ap (λ xs. notebook_of xs p.notebook.metadata) more
          ∙ ap (λ m. notebook_of (m.cells ++ fresh_cell id s n ∷ []) m.metadata) st.notebook
          ∙ ap (λ x. notebook_of (b.cells ++ fresh_cell x s n ∷ []) (metadata base past)) same
          ∙ ap₂ notebook_of (sym is) (sym facts);
      executed = λ q.
          members q ∙ ap (λ x. bytes_eq q id || x) (st.executed q)
          ∙ sym (ap (λ v. executed_after v cs q (executed base past q)) e ∙ ap (λ x. bytes_eq q x || executed base past q) t);
      current = sym (ap (λ v. current_after v cs (current base past)) e ∙ ap (λ x. Some x) t);
      lasts = sym (ap (λ v. lasts_after v (lasts past)) e);
    }

among_end : (xs : List (List ℕ)) (x q : List ℕ) → is_among (xs ++ x ∷ []) q ≡ (is_among xs q || bytes_eq q x)
among_end [] x q = or_false (bytes_eq q x)
  where
    or_false : (b : Bool) → (b || false) ≡ b
    or_false true = refl
    or_false false = refl
among_end (y ∷ ys) x q = ap (λ b. bytes_eq q y || b) (among_end ys x q) ∙ regroup (bytes_eq q y) (is_among ys q) (bytes_eq q x)
  where
    regroup : (a b c : Bool) → (a || (b || c)) ≡ ((a || b) || c)
    regroup true b c = refl
    regroup false b c = refl

distinct_end : (xs : List (List ℕ)) (x : List ℕ) → are_distinct xs ≡ true → is_among xs x ≡ false → are_distinct (xs ++ x ∷ []) ≡ true
distinct_end [] x h n = refl
distinct_end (y ∷ ys) x h n =
    let p = both (not (is_among ys y)) (are_distinct ys) h in
    let q = neither (bytes_eq x y) (is_among ys x) n in
    let apart : bytes_eq y x ≡ false = swapped y x ∙ q.0 in
    ap₂ (λ a b. not a && b) (among_end ys x y ∙ ap₂ (λ a b. a || b) (not_true (is_among ys y) p.0) apart) (distinct_end ys x p.1 q.1)

ids-end : (xs : List Cell) (c : Cell) → ids (xs ++ c ∷ []) ≡ ids xs ++ c.id ∷ []
ids-end [] c = refl
ids-end (x ∷ xs) c = ap (λ r. x.id ∷ r) (ids-end xs c)

pub appends_once : (xs after : List Cell) (wish : Option (List ℕ)) (id s : List ℕ) (n : ℕ) → length xs < 2 ^ 64 → id ≡ new_id xs wish → after ≡ xs ++ fresh_cell id s n ∷ [] → are_distinct (ids xs) ≡ true → are_distinct (ids after) ≡ true
appends_once xs after wish id s n few named more once =
    let counts = length-ids xs in
    let new : is_among (ids xs) id ≡ false = ap (is_among (ids xs)) named ∙ new_is_new xs wish (omega arith) in
    ap (λ l. are_distinct (ids l)) more ∙ ap are_distinct (ids-end xs (fresh_cell id s n)) ∙ distinct_end (ids xs) id once new

-- ---- the cell that began last writes

write_data : (base : Notebook) (past : List Item) (i : Item) (o : Output) → event i ≡ Writes o → metadata base (i ∷ past) ≡ metadata base past
write_data base past i o e = ap (λ v. metadata_after v (metadata base past)) e

write_rest : (p : Pages) (after : List Cell) (base : Notebook) (past : List Item) (i : Item) (o : Output) → event i ≡ Writes o → StandsAt p base past → notebook_of after p.notebook.metadata ≡ book base (i ∷ past)
    → StandsAt (pages_of after p.notebook.metadata p.executed p.current p.lasts) base (i ∷ past)
write_rest p after base past i o e st is = record {
  notebook = is;
  executed = λ q. st.executed q ∙ sym (ap (λ v. executed_after v (cells base past) q (executed base past q)) e);
  current = st.current ∙ sym (ap (λ v. current_after v (cells base past) (current base past)) e);
  lasts = st.lasts ∙ sym (ap (λ v. lasts_after v (lasts past)) e);
}

pub wrote_there : {E : Type 0} (p : Pages) (after : List Cell) (w : List ℕ) (o : Output) (place : ℕ) (r : Result (Unit {0}) E) → p.current ≡ Some w → ((c : Cell) × (slice_get p.notebook.cells place ≡ Some c) × (is_code_at w c ≡ true))
    → are_distinct (ids p.notebook.cells) ≡ true → OnOk r ((c : Cell) → slice_get p.notebook.cells place ≡ Some c → after ≡ slice_set p.notebook.cells place (wrote_cell o c))
    → OnOk r (Follows (Writes o) p (pages_of after p.notebook.metadata p.executed p.current p.lasts))
wrote_there p after w o place (Err error) now found once set = tt
wrote_there p after w o place (Ok done) now found once set =
    λ base past i e st.
    let b = book base past in
    let c = found.0 in
    let at : slice_get b.cells place ≡ Some c = sym (ap (λ m. slice_get m.cells place) st.notebook) ∙ found.1 in
    let distinct : are_distinct (ids b.cells) ≡ true = sym (ap (λ m. are_distinct (ids m.cells)) st.notebook) ∙ once in
    let is = write_there base past i w o place c e (sym st.current ∙ now) distinct at found.2 in
    write_rest p after base past i o e st
    (ap (λ xs. notebook_of xs p.notebook.metadata) (set c found.1) ∙ ap (λ m. notebook_of (slice_set m.cells place (wrote_cell o c)) m.metadata) st.notebook ∙ ap₂ notebook_of (sym is) (sym (write_data base past i o e)))

pub wrote_once : {E : Type 0} (xs after : List Cell) (w : List ℕ) (o : Output) (place : ℕ) (r : Result (Unit {0}) E) → ((c : Cell) × (slice_get xs place ≡ Some c) × (is_code_at w c ≡ true)) → are_distinct (ids xs) ≡ true
    → OnOk r ((c : Cell) → slice_get xs place ≡ Some c → after ≡ slice_set xs place (wrote_cell o c)) → OnErr r (after ≡ xs) → are_distinct (ids after) ≡ true
wrote_once xs after w o place (Ok done) found once set left = ap (λ l. are_distinct (ids l)) (set found.0 found.1) ∙ ap are_distinct (ids-set xs place found.0 (wrote_cell o found.0) found.1 refl) ∙ once
wrote_once xs after w o place (Err e) found once set left = ap (λ l. are_distinct (ids l)) left ∙ once

pub wrote_gone : (p : Pages) (w : List ℕ) (o : Output) → p.current ≡ Some w → has_code p.notebook.cells w ≡ false → Follows (Writes o) p p
wrote_gone p w o now gone =
    λ base past i e st.
    let is = write_gone base past i w o e (sym st.current ∙ now) (sym (ap (λ m. has_code m.cells w) st.notebook) ∙ gone) in
    write_rest p p.notebook.cells base past i o e st (st.notebook ∙ ap₂ notebook_of (sym is) (sym (write_data base past i o e)))

-- ---- cell by cell

pub put_step : (f : Cell → Cell) (front all : List Cell) (cell d : Cell) (left rest : List Cell) → cell ≡ f d → left ≡ d ∷ rest → front ++ map f left ≡ all → (front ++ cell ∷ []) ++ map f rest ≡ all
put_step f front all cell d left rest is split h = append_assoc front (cell ∷ []) (map f rest) ∙ ap (λ x. front ++ x ∷ map f rest) is ∙ ap (λ l. front ++ map f l) (sym split) ∙ h

abbrev pub Found : List Cell → List ℕ → ℕ → Type 0
Found xs w place = (c : Cell) × (slice_get xs place ≡ Some c) × (is_code_at w c ≡ true)

pub found_as : (xs ys : List Cell) (v w : List ℕ) (place : ℕ) → xs ≡ ys → v ≡ w → Found xs v place → Found ys w place
found_as xs ys v w place e f h = (h.0, sym (ap (λ l. slice_get l place) e) ∙ h.1, sym (ap (λ q. is_code_at q h.0) f) ∙ h.2)

-- ---- a put

pub puts : (p : Pages) (after : List Cell) (ex : List (List ℕ)) (n : Notebook) → are_distinct (ids n.cells) ≡ true → after ≡ map (put_cell ex (running_in p) p.notebook.cells) n.cells
    → ((q : List ℕ) → is_among ex q ≡ (has_code n.cells q && is_among p.executed q)) → Follows (Puts n) p (pages_of after n.metadata ex p.current p.lasts)
puts p after ex n once are members =
    λ base past i e st.
    let b = book base past in
    let cs = cells base past in
    let still = λ (q : List ℕ). members q ∙ ap (λ x. has_code n.cells q && x) (st.executed q) in
    let is : after ≡ (book base (i ∷ past)).cells =
    are ∙ ap₂ (λ q m. map (put_cell ex q m.cells) n.cells) (ap₂ running_by st.lasts st.current) st.notebook ∙ sym (put_cells base past i n ex e once still) ∙ sym (ap (λ v. map (written base (i ∷ past)) (cells_after v cs)) e) in
    let facts : metadata base (i ∷ past) ≡ n.metadata = ap (λ v. metadata_after v (metadata base past)) e in
    record {
      notebook = ap₂ notebook_of is (sym facts);
      executed = λ q. still q ∙ sym (ap (λ v. executed_after v cs q (executed base past q)) e);
      current = st.current ∙ sym (ap (λ v. current_after v cs (current base past)) e);
      lasts = st.lasts ∙ sym (ap (λ v. lasts_after v (lasts past)) e);
    }

ids-put : (ex : List (List ℕ)) (going : Option (List ℕ)) (before cs : List Cell) → ids (map (put_cell ex going before) cs) ≡ ids cs
ids-put ex going before [] = refl
ids-put ex going before (c ∷ cs) = ap (λ r. c.id ∷ r) (ids-put ex going before cs)

pub puts_once : (ex : List (List ℕ)) (going : Option (List ℕ)) (before after cs : List Cell) → after ≡ map (put_cell ex going before) cs → are_distinct (ids cs) ≡ true → are_distinct (ids after) ≡ true
puts_once ex going before after cs is once = ap (λ l. are_distinct (ids l)) is ∙ ap are_distinct (ids-put ex going before cs) ∙ once

-- ---- an item is told

pub told : {E : Type 0} (r : Result (Unit {0}) E) (v : Event) (i : Item) (old inside new : Pages) → event i ≡ v → inside ≡ old → OnOk r (Follows v inside new)
    → OnOk r ((base : Notebook) (items : List Item) → StandsAt old base items → StandsAt new base (i ∷ items))
told (Ok done) v i old inside new is same f = λ base items st. f base items i is (subst (λ p. StandsAt p base items) (sym same) st)
told (Err e) v i old inside new is same f = tt
