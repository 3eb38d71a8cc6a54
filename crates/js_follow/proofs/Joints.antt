-- What comes of a change that somebody else made is readable, where both notebooks are.
use Rattle.std.proofs.Common.{◌≡◌, ◌≤◌, ℕ, ◌+◌, ◌<◌, suc, List, [], ◌∷◌, ◌++◌, append_assoc, map, drop, drop-cons, get_or, length, Bool, true, false, cond, not, ◌&&◌, ◌||◌, refl, sym, ap, ap₂, ◌∙◌, subst, arith}
use Rattle.std.specs.List.{AllByRecursion}
use Rattle.std.proofs.lemmas.Bool.{true≢false}
use Rattle.std.specs.Prelude.{filter, Option, Some, None}
use Rattle.std.specs.Str.{bytes_eq}
use Rattle.serde_json.specs.Data.{depth}
use Rattle.serde_json.specs.Read.{max_depth}
use Rattle.nb_doc.specs.declared.notebook.Notebook.{Notebook}
use Rattle.nb_doc.specs.declared.notebook.Cell.{Cell}
use Rattle.nb_doc.specs.declared.notebook.Content.{Content}
use Rattle.nb_doc.specs.declared.notebook.Content.TheVariants as content
use Rattle.nb_doc.specs.declared.notebook.Execution.{Execution}
use Rattle.nb_doc.specs.Documents.{IsDocument, ids}
use Rattle.nb_doc.specs.Ids.{is_among, are_distinct}
use Rattle.nb_doc.specs.Writing.{notebook_form}
use Rattle.nb_doc.proofs.Among.{same_itself, same_if}
use Rattle.nb_record.specs.Book.{run_of}
use Rattle.nb_record.specs.Readable.{IsReadableOutput, IsReadableContent, IsReadableCell, IsReadable}
use Rattle.nb_record.proofs.Books.{both, neither, not_true}
use Rattle.nb_record.proofs.Follow.{notebook_of}
use Rattle.nb_record.proofs.Shallow.{readable_from, document_of, shallow_of}
use Rattle.js_follow.specs.Joining.{cell_at, run_at, has_count, joint_content, joint_cell, is_newer, joint_cells, joint}

-- ---- what holds of each

each_append : {A : Type 0} (P : A → Type 0) (xs ys : List A) → AllByRecursion P xs → AllByRecursion P ys → AllByRecursion P (xs ++ ys)
each_append P [] ys h k = k
each_append P (x ∷ xs) ys h k = (h.0, each_append P xs ys h.1 k)

each_filter : {A : Type 0} (P : A → Type 0) (p : A → Bool) (xs : List A) → AllByRecursion P xs → AllByRecursion P (filter p xs)
each_filter P p [] h = tt
each_filter P p (x ∷ xs) h = go (p x) (each_filter P p xs h.1)
  where
    go : (b : Bool) → AllByRecursion P (filter p xs) → AllByRecursion P (cond b (x ∷ filter p xs) (filter p xs))
    go true rest = (h.0, rest)
    go false rest = rest

-- ---- runs

run_readable : (x : Content) → IsReadableContent x → AllByRecursion IsReadableOutput (run_of x).outputs
run_readable (content.Code e) is = is
run_readable (content.Markdown a) is = tt
run_readable (content.Raw a) is = tt

run_at_readable : (cs : List Cell) (id : List ℕ) → AllByRecursion IsReadableCell cs → AllByRecursion IsReadableOutput (run_at (cell_at id cs)).outputs
run_at_readable [] id are = tt
run_at_readable (c ∷ cs) id are = go (bytes_eq c.id id) (run_at_readable cs id are.1)
  where
    go : (b : Bool) → AllByRecursion IsReadableOutput (run_at (cell_at id cs)).outputs → AllByRecursion IsReadableOutput (run_at (cond b (Some c) (cell_at id cs))).outputs
    go true rest = run_readable c.content are.0.content
    go false rest = rest

content_readable : (known own : Option Cell) (x : Content) → AllByRecursion IsReadableOutput (run_at own).outputs → IsReadableContent x → IsReadableContent (joint_content known own x)
content_readable known own (content.Code e) were is = go (not (has_count e) && not (has_count (run_at known)) && has_count (run_at own))
  where
    go : (b : Bool) → AllByRecursion IsReadableOutput (cond b (run_at own) e).outputs
    go true = were
    go false = is
content_readable known own (content.Markdown a) were is = is
content_readable known own (content.Raw a) were is = is

cells_readable : (known own cs : List Cell) → AllByRecursion IsReadableCell own → AllByRecursion IsReadableCell cs → AllByRecursion IsReadableCell (map (joint_cell known own) cs)
cells_readable known own [] were are = tt
cells_readable known own (c ∷ cs) were are = (
  record {
    id = are.0.id;
    metadata = are.0.metadata;
    shallow = are.0.shallow;
    content = content_readable (cell_at c.id known) (cell_at c.id own) c.content (run_at_readable own c.id were) are.0.content;
  },
  cells_readable known own cs were are.1,
)

-- ---- ids

ids_joint : (known own cs : List Cell) → ids (map (joint_cell known own) cs) ≡ ids cs
ids_joint known own [] = refl
ids_joint known own (c ∷ cs) = ap (λ r. c.id ∷ r) (ids_joint known own cs)

ids_append : (xs ys : List Cell) → ids (xs ++ ys) ≡ ids xs ++ ids ys
ids_append [] ys = refl
ids_append (x ∷ xs) ys = ap (λ r. x.id ∷ r) (ids_append xs ys)

regroup : (a b c : Bool) → (a || (b || c)) ≡ ((a || b) || c)
regroup true b c = refl
regroup false b c = refl

among_append : (xs ys : List (List ℕ)) (q : List ℕ) → is_among (xs ++ ys) q ≡ (is_among xs q || is_among ys q)
among_append [] ys q = refl
among_append (x ∷ xs) ys q = ap (λ b. bytes_eq q x || b) (among_append xs ys q) ∙ regroup (bytes_eq q x) (is_among xs q) (is_among ys q)

distinct_append : (xs ys : List (List ℕ)) → are_distinct xs ≡ true → are_distinct ys ≡ true → ((q : List ℕ) → is_among ys q ≡ true → is_among xs q ≡ false) → are_distinct (xs ++ ys) ≡ true
distinct_append [] ys h k apart = k
distinct_append (x ∷ xs) ys h k apart =
    let p = both (not (is_among xs x)) (are_distinct xs) h in
    let new : is_among ys x ≡ false = go (is_among ys x) refl in
    ap₂ (λ a b. not a && b) (among_append xs ys x ∙ ap₂ (λ a b. a || b) (not_true (is_among xs x) p.0) new)
    (distinct_append xs ys p.1 k (λ q in_ys. (neither (bytes_eq q x) (is_among xs q) (apart q in_ys)).1))
  where
    go : (b : Bool) → is_among ys x ≡ b → b ≡ false
    go true e = absurd (true≢false (sym (same_itself x) ∙ (neither (bytes_eq x x) (is_among xs x) (apart x e)).0))
    go false e = refl

none_kept : (p : Cell → Bool) (cs : List Cell) (q : List ℕ) → is_among (ids cs) q ≡ false → is_among (ids (filter p cs)) q ≡ false
none_kept p [] q h = h
none_kept p (c ∷ cs) q h = let n = neither (bytes_eq q c.id) (is_among (ids cs) q) h in go (p c) n.0 (none_kept p cs q n.1)
  where
    go : (b : Bool) → bytes_eq q c.id ≡ false → is_among (ids (filter p cs)) q ≡ false → is_among (ids (cond b (c ∷ filter p cs) (filter p cs))) q ≡ false
    go true e rest = ap₂ (λ x y. x || y) e rest
    go false e rest = rest

distinct_filter : (p : Cell → Bool) (cs : List Cell) → are_distinct (ids cs) ≡ true → are_distinct (ids (filter p cs)) ≡ true
distinct_filter p [] h = h
distinct_filter p (c ∷ cs) h =
    let s = both (not (is_among (ids cs) c.id)) (are_distinct (ids cs)) h in
    go (p c) (none_kept p cs c.id (not_true (is_among (ids cs) c.id) s.0)) (distinct_filter p cs s.1)
  where
    go : (b : Bool) → is_among (ids (filter p cs)) c.id ≡ false → are_distinct (ids (filter p cs)) ≡ true → are_distinct (ids (cond b (c ∷ filter p cs) (filter p cs))) ≡ true
    go true e rest = ap₂ (λ x y. not x && y) e rest
    go false e rest = rest

-- a newer cell is none of theirs
newer_apart : (known theirs : List (List ℕ)) (cs : List Cell) (q : List ℕ) → is_among (ids (filter (is_newer known theirs) cs)) q ≡ true → is_among theirs q ≡ false
newer_apart known theirs [] q h = absurd (true≢false (sym h))
newer_apart known theirs (c ∷ cs) q h = go (is_newer known theirs c) refl (λ k. newer_apart known theirs cs q k) h
  where
    here : (b : Bool) → bytes_eq q c.id ≡ b → is_newer known theirs c ≡ true → (is_among (ids (filter (is_newer known theirs) cs)) q ≡ true → is_among theirs q ≡ false) → (b || is_among (ids (filter (is_newer known theirs) cs)) q) ≡ true → is_among theirs q ≡ false
    here true e new later k = ap (is_among theirs) (same_if q c.id e) ∙ not_true (is_among theirs c.id) (both (not (is_among known c.id)) (not (is_among theirs c.id)) new).1
    here false e new later k = later k

    go : (b : Bool) → is_newer known theirs c ≡ b → (is_among (ids (filter (is_newer known theirs) cs)) q ≡ true → is_among theirs q ≡ false) → is_among (ids (cond b (c ∷ filter (is_newer known theirs) cs) (filter (is_newer known theirs) cs))) q ≡ true → is_among theirs q ≡ false
    go true new later k = here (bytes_eq q c.id) refl new later k
    go false new later k = later k

ids_distinct : (known own theirs : List Cell) → are_distinct (ids own) ≡ true → are_distinct (ids theirs) ≡ true → are_distinct (ids (joint_cells known own theirs)) ≡ true
ids_distinct known own theirs were are =
    let newer = filter (is_newer (ids known) (ids theirs)) own in
    ap are_distinct (ids_append (map (joint_cell known own) theirs) newer ∙ ap (λ l. l ++ ids newer) (ids_joint known own theirs))
    ∙ distinct_append (ids theirs) (ids newer) are (distinct_filter (is_newer (ids known) (ids theirs)) own were) (newer_apart (ids known) (ids theirs) own)

-- ---- the notebook

joint_readable : (known own theirs : Notebook) → IsReadable own → IsReadable theirs → IsReadable (joint known own theirs)
joint_readable known own theirs were are = record {
  cells =
      each_append IsReadableCell (map (joint_cell known.cells own.cells) theirs.cells) (filter (is_newer (ids known.cells) (ids theirs.cells)) own.cells)
      (cells_readable known.cells own.cells theirs.cells were.cells are.cells)
      (each_filter IsReadableCell (is_newer (ids known.cells) (ids theirs.cells)) own.cells were.cells);
  distinct = ids_distinct known.cells own.cells theirs.cells were.distinct are.distinct;
  metadata = are.metadata;
  shallow = are.shallow;
}

pub joint_document : (known own theirs n : Notebook) → n ≡ joint known own theirs → IsDocument own → depth (notebook_form own) ≤ max_depth → IsDocument theirs → depth (notebook_form theirs) ≤ max_depth
    → IsDocument n × (depth (notebook_form n) ≤ max_depth)
joint_document known own theirs n is own_document own_shallow document shallow =
    let r = subst IsReadable (sym is) (joint_readable known own theirs (readable_from own own_document own_shallow) (readable_from theirs document shallow)) in
    (document_of n r, shallow_of n r)

-- ---- one more cell

pub ids_more : (names now : List (List ℕ)) (cs : List Cell) (i : ℕ) (c : Cell) → i < length cs → c ≡ get_or cs i c → ((q : List ℕ) → is_among now q ≡ (bytes_eq q c.id || is_among names q))
    → ((q : List ℕ) → (is_among names q || is_among (ids (drop i cs)) q) ≡ is_among (ids cs) q) → (q : List ℕ) → (is_among now q || is_among (ids (drop (i + 1) cs)) q) ≡ is_among (ids cs) q
ids_more names now cs i c h is members before q =
    let next : suc i ≡ i + 1 = omega arith in
    let here : ids (drop i cs) ≡ c.id ∷ ids (drop (i + 1) cs) = ap ids (drop-cons cs i c h) ∙ ap₂ (λ x n. x.id ∷ ids (drop n cs)) (sym is) next in
    ap (λ b. b || is_among (ids (drop (i + 1) cs)) q) (members q) ∙ swap (bytes_eq q c.id) (is_among names q) (is_among (ids (drop (i + 1) cs)) q)
    ∙ ap (λ l. is_among names q || is_among l q) (sym here) ∙ before q
  where
    swap : (a b r : Bool) → ((a || b) || r) ≡ (b || (a || r))
    swap true true r = refl
    swap true false r = refl
    swap false b r = refl

pub newer_more : (p : Cell → Bool) (front all own : List Cell) (i : ℕ) (c : Cell) (b : Bool) → i < length own → c ≡ get_or own i c → b ≡ p c → front ++ filter p (drop i own) ≡ all
    → cond b (front ++ c ∷ []) front ++ filter p (drop (i + 1) own) ≡ all
newer_more p front all own i c b h is test before =
    let next : suc i ≡ i + 1 = omega arith in
    let here : drop i own ≡ c ∷ drop (i + 1) own = drop-cons own i c h ∙ ap₂ (λ x n. x ∷ drop n own) (sym is) next in
    go b test ∙ ap (λ l. front ++ filter p l) (sym here) ∙ before
  where
    go : (t : Bool) → t ≡ p c → cond t (front ++ c ∷ []) front ++ filter p (drop (i + 1) own) ≡ front ++ filter p (c ∷ drop (i + 1) own)
    go true e = append_assoc front (c ∷ []) (filter p (drop (i + 1) own)) ∙ ap (λ t. front ++ cond t (c ∷ filter p (drop (i + 1) own)) (filter p (drop (i + 1) own))) e
    go false e = ap (λ t. front ++ cond t (c ∷ filter p (drop (i + 1) own)) (filter p (drop (i + 1) own))) e

-- only membership counts
pub newer_same : (kn known tn theirs : List (List ℕ)) → ((q : List ℕ) → is_among kn q ≡ is_among known q) → ((q : List ℕ) → is_among tn q ≡ is_among theirs q) → (own : List Cell)
    → filter (is_newer kn tn) own ≡ filter (is_newer known theirs) own
newer_same kn known tn theirs h k [] = refl
newer_same kn known tn theirs h k (c ∷ own) =
    ap₂ (λ t l. cond t (c ∷ l) l) (ap₂ (λ a b. not a && not b) (h c.id) (k c.id)) (newer_same kn known tn theirs h k own)

pub joint_value : (known own theirs : Notebook) (kn tn : List (List ℕ)) (first second o t cells all : List Cell) → first ≡ known.cells → second ≡ known.cells → o ≡ own.cells → t ≡ theirs.cells
    → ((q : List ℕ) → is_among kn q ≡ is_among (ids first) q) → ((q : List ℕ) → is_among tn q ≡ is_among (ids t) q) → cells ≡ map (joint_cell second o) theirs.cells → all ≡ cells ++ filter (is_newer kn tn) o
    → notebook_of all theirs.metadata ≡ joint known own theirs
joint_value known own theirs kn tn first second o t cells all first_is second_is o_is t_is known_ids their_ids cells_are all_are =
    let newer = newer_same kn (ids known.cells) tn (ids theirs.cells) (λ q. known_ids q ∙ ap (λ l. is_among (ids l) q) first_is) (λ q. their_ids q ∙ ap (λ l. is_among (ids l) q) t_is) o in
    let front = cells_are ∙ ap₂ (λ k p. map (joint_cell k p) theirs.cells) second_is o_is in
    let back = newer ∙ ap (λ l. filter (is_newer (ids known.cells) (ids theirs.cells)) l) o_is in
    ap (λ l. notebook_of l theirs.metadata) (all_are ∙ ap₂ (λ a b. a ++ b) front back)
