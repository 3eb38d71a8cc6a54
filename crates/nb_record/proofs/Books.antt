-- What a recorder does to its notebook is what the book says.
use Rattle.std.proofs.Common.{◌≡◌, ℕ, zero, suc, ◌+◌, ◌<◌, ◌^◌, ℤ, pos, List, [], ◌∷◌, ◌++◌, map, length, Bool, true, false, not, ◌&&◌, ◌||◌, cond, Option, Some, None, refl, sym, ap, ap₂, ◌∙◌, subst, inl, inr, ◌⊎◌}
use Rattle.std.proofs.lemmas.Bool.{true≢false}
use Rattle.std.proofs.lemmas.List.Folds.{list_any-append}
use Rattle.std.specs.List.{AllByRecursion, list_any}
use Rattle.std.specs.Prelude.{slice_get, slice_set}
use Rattle.std.specs.Str.{bytes_eq}
use Rattle.nb_doc.specs.declared.notebook.Notebook.{Notebook}
use Rattle.nb_doc.specs.declared.notebook.Cell.{Cell}
use Rattle.nb_doc.specs.declared.notebook.Content.{Content}
use Rattle.nb_doc.specs.declared.notebook.Content.TheVariants as content
use Rattle.nb_doc.specs.declared.notebook.Execution.{Execution}
use Rattle.nb_doc.specs.declared.notebook.Output.{Output}
use Rattle.nb_doc.specs.Building.{code_cell}
use Rattle.nb_doc.specs.Documents.{ids}
use Rattle.nb_doc.specs.Ids.{is_allowed, is_among, are_distinct, name_of, least_free}
use Rattle.nb_doc.proofs.Among.{same_itself, same_if, swapped}
use Rattle.nb_doc.proofs.Raised.{is_free}
use Rattle.nb_record.specs.declared.event.Event.{Event}
use Rattle.nb_record.specs.declared.event.Event.TheVariants.{Begins, Passes, Writes, Ends, Puts, Nothing}
use Rattle.nb_record.specs.Book.{Item, Shown, Put, event, is_code, is_code_at, has_code, new_id, is_there, target, cells_after, cells, current, is_id, running, executed, executed_after, source_in, source_after, source, no_run, run_of, run_in, with_output, kept_run, run_after, run, with_run, written, book}
use Rattle.nb_record.specs.Steps.{begun_cell, fresh_cell, started_run, add_output, wrote_cell, put_run, put_cell}

-- ---- truth values

pub both : (a b : Bool) → (a && b) ≡ true → (a ≡ true) × (b ≡ true)
both true b h = (refl, h)
both false b h = cc

pub neither : (a b : Bool) → (a || b) ≡ false → (a ≡ false) × (b ≡ false)
neither true b h = cc
neither false b h = (refl, h)

and_false : (a : Bool) → (a && false) ≡ false
and_false true = refl
and_false false = refl

pub or_true : (a : Bool) → (a || true) ≡ true
or_true true = refl
or_true false = refl

pub not_true : (a : Bool) → not a ≡ true → a ≡ false
not_true true h = cc
not_true false h = refl

-- ---- what a list of cells with distinct ids says of its own cells

record Own (cs : List Cell) (c : Cell) : Type 0 where
  source : source_in cs c.id ≡ c.source
  code : is_code c.content ≡ true → has_code cs c.id ≡ true
  run : is_code c.content ≡ true → run_in cs c.id ≡ run_of c.content

own_first : (c : Cell) (cs : List Cell) → Own (c ∷ cs) c
own_first c cs = record {
  source = ap (λ b. cond b c.source (source_in cs c.id)) (same_itself c.id);
  code = λ h. ap₂ (λ a b. (a && b) || has_code cs c.id) (same_itself c.id) h;
  run = λ h. ap₂ (λ a b. cond (a && b) (run_of c.content) (run_in cs c.id)) (same_itself c.id) h;
}

own_later : (c : Cell) (cs : List Cell) (d : Cell) → bytes_eq c.id d.id ≡ false → Own cs d → Own (c ∷ cs) d
own_later c cs d apart own =
    let other : bytes_eq d.id c.id ≡ false = swapped d.id c.id ∙ apart in
    record {
      source = ap (λ b. cond b c.source (source_in cs d.id)) other ∙ own.source;
      code = λ h. ap (λ b. (b && is_code c.content) || has_code cs d.id) other ∙ own.code h;
      run = λ h. ap (λ b. cond (b && is_code c.content) (run_of c.content) (run_in cs d.id)) other ∙ own.run h;
    }

each_later : (c : Cell) (cs ds : List Cell) → is_among (ids ds) c.id ≡ false → AllByRecursion (Own cs) ds → AllByRecursion (Own (c ∷ cs)) ds
each_later c cs [] h own = tt
each_later c cs (d ∷ ds) h own =
    let p = neither (bytes_eq c.id d.id) (is_among (ids ds) c.id) h in
    (own_later c cs d p.0 own.0, each_later c cs ds p.1 own.1)

all_own : (cs : List Cell) → are_distinct (ids cs) ≡ true → AllByRecursion (Own cs) cs
all_own [] h = tt
all_own (c ∷ cs) h =
    let p = both (not (is_among (ids cs) c.id)) (are_distinct (ids cs)) h in
    (own_first c cs, each_later c cs cs (not_true (is_among (ids cs) c.id) p.0) (all_own cs p.1))

map_same : (P : Cell → Type 0) (f g : Cell → Cell) → ((c : Cell) → P c → f c ≡ g c) → (cs : List Cell) → AllByRecursion P cs → map f cs ≡ map g cs
map_same P f g h [] each = refl
map_same P f g h (c ∷ cs) each = ap₂ (λ x xs. x ∷ xs) (h c each.0) (map_same P f g h cs each.1)

map_id : (P : Cell → Type 0) (f : Cell → Cell) → ((c : Cell) → P c → f c ≡ c) → (cs : List Cell) → AllByRecursion P cs → map f cs ≡ cs
map_id P f h [] each = refl
map_id P f h (c ∷ cs) each = ap₂ (λ x xs. x ∷ xs) (h c each.0) (map_id P f h cs each.1)

map_always : (f g : Cell → Cell) → ((c : Cell) → f c ≡ g c) → (cs : List Cell) → map f cs ≡ map g cs
map_always f g h [] = refl
map_always f g h (c ∷ cs) = ap₂ (λ x xs. x ∷ xs) (h c) (map_always f g h cs)

abbrev cell_of : List ℕ → Cell → List ℕ → Content → Cell
cell_of id c s x = record { id = id; metadata = c.metadata; source = s; content = x }

-- ---- the beginning

content_own : (cs : List Cell) (id : List ℕ) (x : Content) → (is_code x ≡ true → run_in cs id ≡ run_of x) → with_run (run_in cs id) x ≡ x
content_own cs id (content.Code e) h = ap content.Code (h refl)
content_own cs id (content.Markdown a) h = refl
content_own cs id (content.Raw a) h = refl

-- nothing was told
pub book_nil : (base : Notebook) → are_distinct (ids base.cells) ≡ true → book base [] ≡ base
book_nil base h =
    ap (λ cs. record { cells = cs; metadata = base.metadata })
    (map_id (Own base.cells) (written base []) (λ c own. ap₂ (cell_of c.id c) own.source (content_own base.cells c.id c.content own.run)) base.cells (all_own base.cells h))

-- ---- the book has the cells that the list asks for

is_code-with_run : (e : Execution) (x : Content) → is_code (with_run e x) ≡ is_code x
is_code-with_run e (content.Code old) = refl
is_code-with_run e (content.Markdown a) = refl
is_code-with_run e (content.Raw a) = refl

pub ids-book : (base : Notebook) (past : List Item) (cs : List Cell) → ids (map (written base past) cs) ≡ ids cs
ids-book base past [] = refl
ids-book base past (c ∷ cs) = ap (λ r. c.id ∷ r) (ids-book base past cs)

pub has_code-book : (base : Notebook) (past : List Item) (cs : List Cell) (id : List ℕ) → has_code (map (written base past) cs) id ≡ has_code cs id
has_code-book base past [] id = refl
has_code-book base past (c ∷ cs) id = ap₂ (λ a b. (bytes_eq id c.id && a) || b) (is_code-with_run (run base past c.id) c.content) (has_code-book base past cs id)

run_first : (b : Bool) (e : Execution) (x : Content) (later r : Execution) → (is_code x ≡ true → b ≡ true → e ≡ r) → ((b && is_code x) ≡ false → later ≡ r) → cond (b && is_code (with_run e x)) (run_of (with_run e x)) later ≡ r
run_first true e (content.Code old) later r here there = here refl refl
run_first false e (content.Code old) later r here there = there refl
run_first b e (content.Markdown a) later r here there = ap (λ t. cond t no_run later) (and_false b) ∙ there (and_false b)
run_first b e (content.Raw a) later r here there = ap (λ t. cond t no_run later) (and_false b) ∙ there (and_false b)

pub run_in-book : (base : Notebook) (past : List Item) (cs : List Cell) (id : List ℕ) → has_code cs id ≡ true → run_in (map (written base past) cs) id ≡ run base past id
run_in-book base past [] id h = cc
run_in-book base past (c ∷ cs) id h =
    run_first (bytes_eq id c.id) (run base past c.id) c.content (run_in (map (written base past) cs) id) (run base past id)
    (λ code same. ap (run base past) (sym (same_if id c.id same)))
    (λ not_here. run_in-book base past cs id (sym (ap (λ b. b || has_code cs id) not_here) ∙ h))

-- ---- an executed cell is a code cell that stands there

new_is_code : (cs : List Cell) (id name : List ℕ) → bytes_eq id name ≡ true → has_code (cs ++ code_cell name [] None ∷ []) id ≡ true
new_is_code cs id name h = list_any-append (is_code_at id) cs (code_cell name [] None ∷ []) ∙ ap (λ b. has_code cs id || ((b && true) || false)) h ∙ or_true (has_code cs id)

old_is_code : (cs : List Cell) (id name : List ℕ) → has_code cs id ≡ true → has_code (cs ++ code_cell name [] None ∷ []) id ≡ true
old_is_code cs id name h = list_any-append (is_code_at id) cs (code_cell name [] None ∷ []) ∙ ap (λ b. b || has_code (code_cell name [] None ∷ []) id) h

executed_append : (cs : List Cell) (id name : List ℕ) (before : Bool) → (before ≡ true → has_code cs id ≡ true) → (bytes_eq id name || before) ≡ true → has_code (cs ++ code_cell name [] None ∷ []) id ≡ true
executed_append cs id name before old h = go (bytes_eq id name) refl h
  where
    go : (b : Bool) → bytes_eq id name ≡ b → (b || before) ≡ true → has_code (cs ++ code_cell name [] None ∷ []) id ≡ true
    go true e k = new_is_code cs id name e
    go false e k = old_is_code cs id name (old k)

executed_begins : (cs : List Cell) (wish : Option (List ℕ)) (source : List ℕ) (count : ℕ) (id : List ℕ) (before : Bool) → (before ≡ true → has_code cs id ≡ true)
    → executed_after (Begins wish source count) cs id before ≡ true → has_code (cells_after (Begins wish source count) cs) id ≡ true
executed_begins cs None source count id before old h = executed_append cs id (new_id cs None) before old h
executed_begins cs (Some w) source count id before old h = go (has_code cs w) refl h
  where
    go : (b : Bool) → has_code cs w ≡ b → (bytes_eq id (cond b w (new_id cs (Some w))) || before) ≡ true → has_code (cond b cs (cs ++ code_cell (new_id cs (Some w)) [] None ∷ [])) id ≡ true
    go true e k = there (bytes_eq id w) refl k
      where
        there : (b : Bool) → bytes_eq id w ≡ b → (b || before) ≡ true → has_code cs id ≡ true
        there true same k = ap (has_code cs) (same_if id w same) ∙ e
        there false same k = old k
    go false e k = executed_append cs id (new_id cs (Some w)) before old k

executed_step : (v : Event) (cs : List Cell) (id : List ℕ) (before : Bool) → (before ≡ true → has_code cs id ≡ true) → executed_after v cs id before ≡ true → has_code (cells_after v cs) id ≡ true
executed_step (Begins wish source count) cs id before old h = executed_begins cs wish source count id before old h
executed_step (Puts n) cs id before old h = (both (has_code n.cells id) before h).0
executed_step Passes cs id before old h = old h
executed_step (Writes o) cs id before old h = old h
executed_step Ends cs id before old h = old h
executed_step Nothing cs id before old h = old h

pub executed_is_code : (base : Notebook) (items : List Item) (id : List ℕ) → executed base items id ≡ true → has_code (cells base items) id ≡ true
executed_is_code base [] id h = cc
executed_is_code base (i ∷ past) id h = executed_step (event i) (cells base past) id (executed base past id) (λ e. executed_is_code base past id e) h

-- ---- a put

put_content : (x : Content) (was runs : Bool) (put before kept : Execution) → (is_code x ≡ true → put ≡ run_of x) → (was ≡ true → kept ≡ before) → with_run (cond was (kept_run runs put before) put) x ≡ with_run (cond was (kept_run runs (run_of x) kept) (run_of x)) x
put_content (content.Code e) true runs put before kept h k = ap₂ (λ a b. content.Code (kept_run runs a b)) (h refl) (sym (k refl))
put_content (content.Code e) false runs put before kept h k = ap content.Code (h refl)
put_content (content.Markdown a) was runs put before kept h k = refl
put_content (content.Raw a) was runs put before kept h k = refl

-- which are still executed matters for code cells alone
still_content : (x : Content) (a b : Bool) (e f : Execution) → (is_code x ≡ true → a ≡ b) → with_run (cond a e f) x ≡ with_run (cond b e f) x
still_content (content.Code old) a b e f h = ap (λ t. content.Code (cond t e f)) (h refl)
still_content (content.Markdown x) a b e f h = refl
still_content (content.Raw x) a b e f h = refl

abbrev IsStill : List (List ℕ) → Notebook → Notebook → List Item → Type 0
IsStill still n base past = (id : List ℕ) → is_among still id ≡ (has_code n.cells id && executed base past id)

put_one : (base : Notebook) (past : List Item) (i : Item) (n : Notebook) (still : List (List ℕ)) → event i ≡ Puts n → IsStill still n base past → (c : Cell) → Own n.cells c → written base (i ∷ past) c ≡ put_cell still (running base past) (book base past).cells c
put_one base past i n still e s c own =
    let was = executed base past c.id in
    let before = run base past c.id in
    let going = running base past in
    let runs_now = is_id c.id going in
    let kept = run_in (book base past).cells c.id in
    let sources : source base (i ∷ past) c.id ≡ c.source = ap (λ v. source_after v (cells base past) c.id (source base past c.id)) e ∙ own.source in
    let runs : run base (i ∷ past) c.id ≡ cond was (kept_run runs_now (run_in n.cells c.id) before) (run_in n.cells c.id) = ap (λ v. run_after v (cells base past) (current base past) going c.id was before) e in
    let keeps : was ≡ true → kept ≡ before = λ h. run_in-book base past (cells base past) c.id (executed_is_code base past c.id h) in
    let stays : is_code c.content ≡ true → was ≡ is_among still c.id = λ h. sym (s c.id ∙ ap (λ b. b && was) (own.code h)) in
    ap₂ (cell_of c.id c) sources
    (ap (λ r. with_run r c.content) runs ∙ put_content c.content was runs_now (run_in n.cells c.id) before kept own.run keeps
    ∙ still_content c.content was (is_among still c.id) (kept_run runs_now (run_of c.content) kept) (run_of c.content) stays)

pub put_cells : (base : Notebook) (past : List Item) (i : Item) (n : Notebook) (still : List (List ℕ)) → event i ≡ Puts n → are_distinct (ids n.cells) ≡ true → IsStill still n base past
    → map (written base (i ∷ past)) n.cells ≡ map (put_cell still (running base past) (book base past).cells) n.cells
put_cells base past i n still e once s = map_same (Own n.cells) (written base (i ∷ past)) (put_cell still (running base past) (book base past).cells) (put_one base past i n still e s) n.cells (all_own n.cells once)

-- ---- one cell changed

map_map : (f g : Cell → Cell) (cs : List Cell) → map f (map g cs) ≡ map (λ c. f (g c)) cs
map_map f g [] = refl
map_map f g (c ∷ cs) = ap (λ r. f (g c) ∷ r) (map_map f g cs)

get_among : (xs : List Cell) (i : ℕ) (c : Cell) (id : List ℕ) → slice_get xs i ≡ Some c → bytes_eq id c.id ≡ true → is_among (ids xs) id ≡ true
get_among [] i c id h e = cc
get_among (x ∷ xs) zero c id h e = let same : x ≡ c = cc in ap (λ y. bytes_eq id y.id || is_among (ids xs) id) same ∙ ap (λ b. b || is_among (ids xs) id) e
get_among (x ∷ xs) (suc i) c id h e = ap (λ b. bytes_eq id x.id || b) (get_among xs i c id h e) ∙ or_true (bytes_eq id x.id)

rest_same : (f : Cell → Cell) (id : List ℕ) → ((c : Cell) → bytes_eq id c.id ≡ false → f c ≡ c) → (xs : List Cell) → is_among (ids xs) id ≡ false → map f xs ≡ xs
rest_same f id h [] n = refl
rest_same f id h (x ∷ xs) n = let p = neither (bytes_eq id x.id) (is_among (ids xs) id) n in ap₂ (λ y ys. y ∷ ys) (h x p.0) (rest_same f id h xs p.1)

not_first : (x : Cell) (xs : List Cell) (id : List ℕ) → is_among (ids xs) x.id ≡ false → is_among (ids xs) id ≡ true → bytes_eq id x.id ≡ false
not_first x xs id n h = go (bytes_eq id x.id) refl
  where
    go : (b : Bool) → bytes_eq id x.id ≡ b → b ≡ false
    go true e = absurd (true≢false (sym h ∙ ap (is_among (ids xs)) (same_if id x.id e) ∙ n))
    go false e = refl

-- where one cell alone is changed, it is set
pub set_one : (f : Cell → Cell) (id : List ℕ) (xs : List Cell) (i : ℕ) (c : Cell) → are_distinct (ids xs) ≡ true → slice_get xs i ≡ Some c → bytes_eq id c.id ≡ true → ((x : Cell) → bytes_eq id x.id ≡ false → f x ≡ x)
    → map f xs ≡ slice_set xs i (f c)
set_one f id [] i c once h e others = cc
set_one f id (x ∷ xs) zero c once h e others =
    let p = both (not (is_among (ids xs) x.id)) (are_distinct (ids xs)) once in
    let same : x ≡ c = cc in
    let new : is_among (ids xs) id ≡ false = ap (is_among (ids xs)) (same_if id c.id e ∙ ap (λ y. y.id) (sym same)) ∙ not_true (is_among (ids xs) x.id) p.0 in
    ap₂ (λ y ys. f y ∷ ys) same (rest_same f id others xs new)
set_one f id (x ∷ xs) (suc i) c once h e others =
    let p = both (not (is_among (ids xs) x.id)) (are_distinct (ids xs)) once in
    let apart = not_first x xs id (not_true (is_among (ids xs) x.id) p.0) (get_among xs i c id h e) in
    ap₂ (λ y ys. y ∷ ys) (others x apart) (set_one f id xs i c p.1 h e others)

-- setting a cell of the same id changes no id
pub ids-set : (xs : List Cell) (i : ℕ) (c d : Cell) → slice_get xs i ≡ Some c → d.id ≡ c.id → ids (slice_set xs i d) ≡ ids xs
ids-set [] i c d h e = cc
ids-set (x ∷ xs) zero c d h e = let same : x ≡ c = cc in ap (λ y. y ∷ ids xs) (e ∙ ap (λ y. y.id) (sym same))
ids-set (x ∷ xs) (suc i) c d h e = ap (λ r. x.id ∷ r) (ids-set xs i c d h e)

-- ---- a cell that stands there begins

begun_content : Bool → ℕ → Content → Content
begun_content true n x = with_run (started_run n) x
begun_content false n x = x

on_begin : List ℕ → List ℕ → ℕ → Cell → Cell
on_begin w s n x = cell_of x.id x (cond (bytes_eq x.id w) s x.source) (begun_content (bytes_eq x.id w) n x.content)

begun_with_run : (b : Bool) (n : ℕ) (e : Execution) (x : Content) → with_run (cond b (started_run n) e) x ≡ begun_content b n (with_run e x)
unfolding begun_content
begun_with_run true n e (content.Code old) = refl
begun_with_run true n e (content.Markdown a) = refl
begun_with_run true n e (content.Raw a) = refl
begun_with_run false n e x = refl

begun_others : (w s : List ℕ) (n : ℕ) (x : Cell) → bytes_eq w x.id ≡ false → on_begin w s n x ≡ x
unfolding on_begin begun_content
begun_others w s n x h = let apart : bytes_eq x.id w ≡ false = swapped x.id w ∙ h in ap (λ b. cell_of x.id x (cond b s x.source) (begun_content b n x.content)) apart

code_begun : (n : ℕ) (x : Content) → is_code x ≡ true → with_run (started_run n) x ≡ content.Code (started_run n)
code_begun n (content.Code e) h = refl
code_begun n (content.Markdown a) h = cc
code_begun n (content.Raw a) h = cc

begun_here : (w s : List ℕ) (n : ℕ) (x : Cell) → is_code_at w x ≡ true → on_begin w s n x ≡ begun_cell s n x
unfolding on_begin begun_content
begun_here w s n x h =
    let p = both (bytes_eq w x.id) (is_code x.content) h in
    let same : bytes_eq x.id w ≡ true = swapped x.id w ∙ p.0 in
    ap (λ b. cell_of x.id x (cond b s x.source) (begun_content b n x.content)) same ∙ ap (cell_of x.id x s) (code_begun n x.content p.1)

pub target_there : (cs : List Cell) (w : List ℕ) → has_code cs w ≡ true → target cs (Some w) ≡ w
target_there cs w h = ap (λ b. cond b w (new_id cs (Some w))) h

cells_there : (cs : List Cell) (w s : List ℕ) (n : ℕ) → has_code cs w ≡ true → cells_after (Begins (Some w) s n) cs ≡ cs
cells_there cs w s n h = ap (λ b. cond b cs (cs ++ code_cell (new_id cs (Some w)) [] None ∷ [])) h

written_begun : (base : Notebook) (past : List Item) (i : Item) (w s : List ℕ) (n : ℕ) → event i ≡ Begins (Some w) s n → has_code (cells base past) w ≡ true → (c : Cell) → written base (i ∷ past) c ≡ on_begin w s n (written base past c)
unfolding on_begin
written_begun base past i w s n e there c =
    let cs = cells base past in
    let before = run base past c.id in
    let t = target_there cs w there in
    let sources : source base (i ∷ past) c.id ≡ cond (bytes_eq c.id w) s (source base past c.id) = ap (λ v. source_after v cs c.id (source base past c.id)) e ∙ ap (λ q. cond (bytes_eq c.id q) s (source base past c.id)) t in
    let runs : run base (i ∷ past) c.id ≡ cond (bytes_eq c.id w) (started_run n) before =
    ap (λ v. run_after v cs (current base past) (running base past) c.id (executed base past c.id) before) e ∙ ap (λ q. cond (bytes_eq c.id q) (started_run n) before) t in
    ap₂ (cell_of c.id c) sources (ap (λ r. with_run r c.content) runs ∙ begun_with_run (bytes_eq c.id w) n before c.content)

pub begin_there : (base : Notebook) (past : List Item) (i : Item) (w s : List ℕ) (n place : ℕ) (c : Cell) → event i ≡ Begins (Some w) s n → are_distinct (ids (book base past).cells) ≡ true
    → slice_get (book base past).cells place ≡ Some c → is_code_at w c ≡ true → has_code (cells base past) w ≡ true
    → (book base (i ∷ past)).cells ≡ slice_set (book base past).cells place (begun_cell s n c)
begin_there base past i w s n place c e once at is there =
    let cs = cells base past in
    let old = (book base past).cells in
    let kept : cells base (i ∷ past) ≡ cs = ap (λ v. cells_after v cs) e ∙ cells_there cs w s n there in
    let here = both (bytes_eq w c.id) (is_code c.content) is in
    ap (map (written base (i ∷ past))) kept
    ∙ map_always (written base (i ∷ past)) (λ x. on_begin w s n (written base past x)) (written_begun base past i w s n e there) cs
    ∙ sym (map_map (on_begin w s n) (written base past) cs)
    ∙ set_one (on_begin w s n) w old place c once at here.0 (begun_others w s n)
    ∙ ap (slice_set old place) (begun_here w s n c is)

-- ---- a cell writes

wrote_content : Bool → Output → Content → Content
wrote_content true o x = add_output o x
wrote_content false o x = x

on_write : List ℕ → Output → Cell → Cell
on_write w o x = cell_of x.id x x.source (wrote_content (bytes_eq x.id w) o x.content)

wrote_with_run : (b : Bool) (o : Output) (e : Execution) (x : Content) → with_run (cond b (with_output e o) e) x ≡ wrote_content b o (with_run e x)
unfolding wrote_content
wrote_with_run true o e (content.Code old) = refl
wrote_with_run true o e (content.Markdown a) = refl
wrote_with_run true o e (content.Raw a) = refl
wrote_with_run false o e x = refl

wrote_others : (w : List ℕ) (o : Output) (x : Cell) → bytes_eq w x.id ≡ false → on_write w o x ≡ x
unfolding on_write wrote_content
wrote_others w o x h = let apart : bytes_eq x.id w ≡ false = swapped x.id w ∙ h in ap (λ b. cell_of x.id x x.source (wrote_content b o x.content)) apart

wrote_here : (w : List ℕ) (o : Output) (x : Cell) → bytes_eq w x.id ≡ true → on_write w o x ≡ wrote_cell o x
unfolding on_write wrote_content
wrote_here w o x h = let same : bytes_eq x.id w ≡ true = swapped x.id w ∙ h in ap (λ b. cell_of x.id x x.source (wrote_content b o x.content)) same

no_code : (o : Output) (x : Content) → is_code x ≡ false → add_output o x ≡ x
no_code o (content.Code e) h = cc
no_code o (content.Markdown a) h = refl
no_code o (content.Raw a) h = refl

wrote_none : (w : List ℕ) (o : Output) (x : Cell) → is_code_at w x ≡ false → on_write w o x ≡ x
unfolding on_write wrote_content
wrote_none w o x h = go (bytes_eq x.id w) (swapped x.id w)
  where
    go : (b : Bool) → b ≡ bytes_eq w x.id → cell_of x.id x x.source (wrote_content b o x.content) ≡ x
    go true e = ap (cell_of x.id x x.source) (no_code o x.content (ap (λ b. b && is_code x.content) e ∙ h))
    go false e = refl

wrote_nowhere : (w : List ℕ) (o : Output) (xs : List Cell) → has_code xs w ≡ false → map (on_write w o) xs ≡ xs
wrote_nowhere w o [] h = refl
wrote_nowhere w o (x ∷ xs) h = let p = neither (is_code_at w x) (has_code xs w) h in ap₂ (λ y ys. y ∷ ys) (wrote_none w o x p.0) (wrote_nowhere w o xs p.1)

written_wrote : (base : Notebook) (past : List Item) (i : Item) (w : List ℕ) (o : Output) → event i ≡ Writes o → current base past ≡ Some w → (c : Cell) → written base (i ∷ past) c ≡ on_write w o (written base past c)
unfolding on_write
written_wrote base past i w o e now c =
    let cs = cells base past in
    let before = run base past c.id in
    let sources : source base (i ∷ past) c.id ≡ source base past c.id = ap (λ v. source_after v cs c.id (source base past c.id)) e in
    let runs : run base (i ∷ past) c.id ≡ cond (bytes_eq c.id w) (with_output before o) before =
    ap (λ v. run_after v cs (current base past) (running base past) c.id (executed base past c.id) before) e ∙ ap (λ q. cond (is_id c.id q) (with_output before o) before) now in
    ap₂ (cell_of c.id c) sources (ap (λ r. with_run r c.content) runs ∙ wrote_with_run (bytes_eq c.id w) o before c.content)

wrote_map : (base : Notebook) (past : List Item) (i : Item) (w : List ℕ) (o : Output) → event i ≡ Writes o → current base past ≡ Some w → (book base (i ∷ past)).cells ≡ map (on_write w o) (book base past).cells
wrote_map base past i w o e now =
    ap (λ v. map (written base (i ∷ past)) (cells_after v (cells base past))) e
    ∙ map_always (written base (i ∷ past)) (λ x. on_write w o (written base past x)) (written_wrote base past i w o e now) (cells base past)
    ∙ sym (map_map (on_write w o) (written base past) (cells base past))

pub write_there : (base : Notebook) (past : List Item) (i : Item) (w : List ℕ) (o : Output) (place : ℕ) (c : Cell) → event i ≡ Writes o → current base past ≡ Some w → are_distinct (ids (book base past).cells) ≡ true
    → slice_get (book base past).cells place ≡ Some c → is_code_at w c ≡ true
    → (book base (i ∷ past)).cells ≡ slice_set (book base past).cells place (wrote_cell o c)
write_there base past i w o place c e now once at is =
    let here = both (bytes_eq w c.id) (is_code c.content) is in
    wrote_map base past i w o e now ∙ set_one (on_write w o) w (book base past).cells place c once at here.0 (wrote_others w o) ∙ ap (slice_set (book base past).cells place) (wrote_here w o c here.0)

pub write_gone : (base : Notebook) (past : List Item) (i : Item) (w : List ℕ) (o : Output) → event i ≡ Writes o → current base past ≡ Some w → has_code (book base past).cells w ≡ false → (book base (i ∷ past)).cells ≡ (book base past).cells
write_gone base past i w o e now gone = wrote_map base past i w o e now ∙ wrote_nowhere w o (book base past).cells gone

-- no cell that is recorded writes
written_alone : (base : Notebook) (past : List Item) (i : Item) (o : Output) → event i ≡ Writes o → current base past ≡ None → (c : Cell) → written base (i ∷ past) c ≡ written base past c
written_alone base past i o e now c =
    let cs = cells base past in
    let before = run base past c.id in
    let sources : source base (i ∷ past) c.id ≡ source base past c.id = ap (λ v. source_after v cs c.id (source base past c.id)) e in
    let runs : run base (i ∷ past) c.id ≡ before = ap (λ v. run_after v cs (current base past) (running base past) c.id (executed base past c.id) before) e ∙ ap (λ q. cond (is_id c.id q) (with_output before o) before) now in
    ap₂ (cell_of c.id c) sources (ap (λ r. with_run r c.content) runs)

pub write_alone : (base : Notebook) (past : List Item) (i : Item) (o : Output) → event i ≡ Writes o → current base past ≡ None → (book base (i ∷ past)).cells ≡ (book base past).cells
write_alone base past i o e now =
    ap (λ v. map (written base (i ∷ past)) (cells_after v (cells base past))) e ∙ map_always (written base (i ∷ past)) (written base past) (written_alone base past i o e now) (cells base past)

-- ---- a cell that is appended begins

pub new_is_new : (cs : List Cell) (wish : Option (List ℕ)) → length (ids cs) + 1 < 2 ^ 66 → is_among (ids cs) (new_id cs wish) ≡ false
new_is_new cs None few = is_free (ids cs) few
new_is_new cs (Some w) few = go (is_allowed w) (is_among (ids cs) w) refl
  where
    go : (a b : Bool) → is_among (ids cs) w ≡ b → is_among (ids cs) (cond (a && not b) w (name_of (least_free (ids cs)))) ≡ false
    go true true e = is_free (ids cs) few
    go true false e = e
    go false b e = is_free (ids cs) few

pub target_new : (cs : List Cell) (wish : Option (List ℕ)) → is_there cs wish ≡ false → target cs wish ≡ new_id cs wish
target_new cs None h = refl
target_new cs (Some w) h = ap (λ b. cond b w (new_id cs (Some w))) h

begun_rest : (base : Notebook) (past : List Item) (i : Item) (wish : Option (List ℕ)) (s : List ℕ) (n : ℕ) → event i ≡ Begins wish s n → is_there (cells base past) wish ≡ false
    → (ds : List Cell) → is_among (ids ds) (new_id (cells base past) wish) ≡ false → map (written base (i ∷ past)) ds ≡ map (written base past) ds
begun_rest base past i wish s n e new [] h = refl
begun_rest base past i wish s n e new (c ∷ ds) h =
    let cs = cells base past in
    let id = new_id cs wish in
    let before = run base past c.id in
    let p = neither (bytes_eq id c.id) (is_among (ids ds) id) h in
    let apart : bytes_eq c.id (target cs wish) ≡ false = ap (bytes_eq c.id) (target_new cs wish new) ∙ swapped c.id id ∙ p.0 in
    let sources : source base (i ∷ past) c.id ≡ source base past c.id = ap (λ v. source_after v cs c.id (source base past c.id)) e ∙ ap (λ b. cond b s (source base past c.id)) apart in
    let runs : run base (i ∷ past) c.id ≡ before = ap (λ v. run_after v cs (current base past) (running base past) c.id (executed base past c.id) before) e ∙ ap (λ b. cond b (started_run n) before) apart in
    ap₂ (λ y ys. y ∷ ys) (ap₂ (cell_of c.id c) sources (ap (λ r. with_run r c.content) runs)) (begun_rest base past i wish s n e new ds p.1)

begun_last : (base : Notebook) (past : List Item) (i : Item) (wish : Option (List ℕ)) (s : List ℕ) (n : ℕ) → event i ≡ Begins wish s n → is_there (cells base past) wish ≡ false
    → written base (i ∷ past) (code_cell (new_id (cells base past) wish) [] None) ≡ fresh_cell (new_id (cells base past) wish) s n
begun_last base past i wish s n e new =
    let cs = cells base past in
    let id = new_id cs wish in
    let before = run base past id in
    let same : bytes_eq id (target cs wish) ≡ true = ap (bytes_eq id) (target_new cs wish new) ∙ same_itself id in
    let sources : source base (i ∷ past) id ≡ s = ap (λ v. source_after v cs id (source base past id)) e ∙ ap (λ b. cond b s (source base past id)) same in
    let runs : run base (i ∷ past) id ≡ started_run n = ap (λ v. run_after v cs (current base past) (running base past) id (executed base past id) before) e ∙ ap (λ b. cond b (started_run n) before) same in
    ap₂ (cell_of id (code_cell id [] None)) sources (ap content.Code runs)

map-append-one : (f : Cell → Cell) (xs : List Cell) (x : Cell) → map f (xs ++ x ∷ []) ≡ map f xs ++ f x ∷ []
map-append-one f [] x = refl
map-append-one f (y ∷ ys) x = ap (λ r. f y ∷ r) (map-append-one f ys x)

cells_new : (cs : List Cell) (wish : Option (List ℕ)) (s : List ℕ) (n : ℕ) → is_there cs wish ≡ false → cells_after (Begins wish s n) cs ≡ cs ++ code_cell (new_id cs wish) [] None ∷ []
cells_new cs wish s n h = ap (λ b. cond b cs (cs ++ code_cell (new_id cs wish) [] None ∷ [])) h

pub begin_new : (base : Notebook) (past : List Item) (i : Item) (wish : Option (List ℕ)) (s : List ℕ) (n : ℕ) → event i ≡ Begins wish s n → is_there (cells base past) wish ≡ false → length (ids (cells base past)) + 1 < 2 ^ 66
    → (book base (i ∷ past)).cells ≡ (book base past).cells ++ fresh_cell (new_id (cells base past) wish) s n ∷ []
begin_new base past i wish s n e new few =
    let cs = cells base past in
    ap (λ v. map (written base (i ∷ past)) (cells_after v cs)) e
    ∙ ap (map (written base (i ∷ past))) (cells_new cs wish s n new)
    ∙ map-append-one (written base (i ∷ past)) cs (code_cell (new_id cs wish) [] None)
    ∙ ap₂ (λ xs x. xs ++ x ∷ []) (begun_rest base past i wish s n e new cs (new_is_new cs wish few)) (begun_last base past i wish s n e new)
