-- A notebook that is recorded stays readable.
use Rattle.std.proofs.Common.{◌≡◌, ℕ, zero, suc, ◌+◌, ◌<◌, ◌≤◌, ◌^◌, List, [], ◌∷◌, ◌++◌, map, length, Bool, true, false, cond, not, ◌&&◌, ◌||◌, Option, Some, None, refl, sym, ap, ◌∙◌, subst, arith}
use Rattle.std.specs.List.{AllByRecursion}
use Rattle.std.specs.Prelude.{is_some, slice_get, slice_set, Result, Ok, Err, OnOk, OnErr}
use Rattle.serde_json.specs.Data.{Data}
use Rattle.nb_doc.specs.declared.notebook.Notebook.{Notebook}
use Rattle.nb_doc.specs.declared.notebook.Cell.{Cell}
use Rattle.nb_doc.specs.declared.notebook.Content.{Content}
use Rattle.nb_doc.specs.declared.notebook.Content.TheVariants as content
use Rattle.nb_doc.specs.declared.notebook.Execution.{Execution}
use Rattle.nb_doc.specs.declared.notebook.Output.{Output}
use Rattle.nb_doc.specs.declared.notebook.Output.TheVariants as output
use Rattle.nb_doc.specs.Documents.{ids}
use Rattle.nb_doc.specs.Ids.{is_allowed, is_among, name_of, least_free}
use Rattle.nb_doc.proofs.Raised.{least_free-≤, name_allowed}
use Rattle.nb_record.specs.Book.{is_code_at, is_id, new_id, no_run, run_of, run_in, kept_run, with_run}
use Rattle.nb_record.specs.Steps.{begun_cell, fresh_cell, add_output, wrote_cell, put_run, put_cell}
use Rattle.nb_record.specs.Readable.{IsReadableOutput, IsReadableContent, IsReadableCell, IsReadable}
use Rattle.nb_record.proofs.Books.{both}
use Rattle.nb_record.proofs.Follow.{notebook_of, length-ids, restarts_once, appends_once, wrote_once, puts_once}
use Rattle.nb_record.proofs.Shallow.{stream_low, error_low}

-- ---- what holds of each

each_set : {A : Type 0} (P : A → Type 0) (xs : List A) (i : ℕ) (x : A) → P x → AllByRecursion P xs → AllByRecursion P (slice_set xs i x)
each_set P [] i x p h = tt
each_set P (y ∷ ys) zero x p h = (p, h.1)
each_set P (y ∷ ys) (suc i) x p h = (h.0, each_set P ys i x p h.1)

each_get : {A : Type 0} (P : A → Type 0) (xs : List A) (i : ℕ) (x : A) → slice_get xs i ≡ Some x → AllByRecursion P xs → P x
each_get P [] i x e h = cc
each_get P (y ∷ ys) zero x e h = let same : y ≡ x = cc in subst P same h.0
each_get P (y ∷ ys) (suc i) x e h = each_get P ys i x e h.1

each_end : {A : Type 0} (P : A → Type 0) (xs : List A) (x : A) → AllByRecursion P xs → P x → AllByRecursion P (xs ++ x ∷ [])
each_end P [] x h p = (p, tt)
each_end P (y ∷ ys) x h p = (h.0, each_end P ys x h.1 p)

-- ---- what is written

pub stream_readable : (name text : List ℕ) → IsReadableOutput (output.Stream name text)
stream_readable name text = record { document = tt; shallow = stream_low name text }

pub error_readable : (ename evalue : List ℕ) (traceback : List (List ℕ)) → IsReadableOutput (output.Error ename evalue traceback)
error_readable ename evalue traceback = record { document = tt; shallow = error_low ename evalue traceback }

-- ---- a cell that stands there begins

begun_readable : (s : List ℕ) (n : ℕ) (c : Cell) → IsReadableCell c → IsReadableCell (begun_cell s n c)
begun_readable s n c is = record { id = is.id; metadata = is.metadata; shallow = is.shallow; content = tt }

pub restarts_readable : (p : Notebook) (after : List Cell) (w s : List ℕ) (n place : ℕ) → ((c : Cell) × (slice_get p.cells place ≡ Some c) × (is_code_at w c ≡ true)) → IsReadable p
    → ((c : Cell) → slice_get p.cells place ≡ Some c → after ≡ slice_set p.cells place (begun_cell s n c)) → IsReadable (notebook_of after p.metadata)
restarts_readable p after w s n place found is set =
    let c = found.0 in
    let cell = begun_readable s n c (each_get IsReadableCell p.cells place c found.1 is.cells) in
    record {
      cells = subst (AllByRecursion IsReadableCell) (sym (set c found.1)) (each_set IsReadableCell p.cells place (begun_cell s n c) cell is.cells);
      distinct = restarts_once p.cells after w s n place found is.distinct set;
      metadata = is.metadata;
      shallow = is.shallow;
    }

-- ---- a cell that is appended begins

least_allowed : (cs : List Cell) → length cs < 2 ^ 64 → is_allowed (name_of (least_free (ids cs))) ≡ true
least_allowed cs few = let low = least_free-≤ (ids cs) in let same = length-ids cs in name_allowed (least_free (ids cs)) (omega arith)

new_allowed : (cs : List Cell) (wish : Option (List ℕ)) → length cs < 2 ^ 64 → is_allowed (new_id cs wish) ≡ true
new_allowed cs None few = least_allowed cs few
new_allowed cs (Some w) few = go (is_allowed w && not (is_among (ids cs) w)) refl
  where
    go : (b : Bool) → (is_allowed w && not (is_among (ids cs) w)) ≡ b → is_allowed (cond b w (name_of (least_free (ids cs)))) ≡ true
    go true e = (both (is_allowed w) (not (is_among (ids cs) w)) e).0
    go false e = least_allowed cs few

fresh_readable : (cs : List Cell) (wish : Option (List ℕ)) (id s : List ℕ) (n : ℕ) → length cs < 2 ^ 64 → id ≡ new_id cs wish → IsReadableCell (fresh_cell id s n)
fresh_readable cs wish id s n few named = record { id = ap is_allowed named ∙ new_allowed cs wish few; metadata = refl; shallow = omega arith; content = tt }

pub appends_readable : (p : Notebook) (after : List Cell) (wish : Option (List ℕ)) (id s : List ℕ) (n : ℕ) → length p.cells < 2 ^ 64 → id ≡ new_id p.cells wish → after ≡ p.cells ++ fresh_cell id s n ∷ []
    → IsReadable p → IsReadable (notebook_of after p.metadata)
appends_readable p after wish id s n few named more is = record {
  cells = subst (AllByRecursion IsReadableCell) (sym more) (each_end IsReadableCell p.cells (fresh_cell id s n) is.cells (fresh_readable p.cells wish id s n few named));
  distinct = appends_once p.cells after wish id s n few named more is.distinct;
  metadata = is.metadata;
  shallow = is.shallow;
}

-- ---- the cell that began last writes

added_readable : (o : Output) (x : Content) → IsReadableOutput o → IsReadableContent x → IsReadableContent (add_output o x)
added_readable o (content.Code e) low is = each_end IsReadableOutput e.outputs o is low
added_readable o (content.Markdown a) low is = is
added_readable o (content.Raw a) low is = is

wrote_readable_cell : (o : Output) (c : Cell) → IsReadableOutput o → IsReadableCell c → IsReadableCell (wrote_cell o c)
wrote_readable_cell o c low is = record { id = is.id; metadata = is.metadata; shallow = is.shallow; content = added_readable o c.content low is.content }

pub wrote_readable : {E : Type 0} (p : Notebook) (after : List Cell) (w : List ℕ) (o : Output) (place : ℕ) (r : Result (Unit {0}) E) → ((c : Cell) × (slice_get p.cells place ≡ Some c) × (is_code_at w c ≡ true)) → IsReadable p
    → IsReadableOutput o → OnOk r ((c : Cell) → slice_get p.cells place ≡ Some c → after ≡ slice_set p.cells place (wrote_cell o c)) → OnErr r (after ≡ p.cells) → IsReadable (notebook_of after p.metadata)
wrote_readable {E = E} p after w o place (Ok done) found is low set left =
    let c = found.0 in
    let cell = wrote_readable_cell o c low (each_get IsReadableCell p.cells place c found.1 is.cells) in
    record {
      cells = subst (AllByRecursion IsReadableCell) (sym (set c found.1)) (each_set IsReadableCell p.cells place (wrote_cell o c) cell is.cells);
      distinct = wrote_once {E = E} p.cells after w o place (Ok done) found is.distinct set left;
      metadata = is.metadata;
      shallow = is.shallow;
    }
wrote_readable p after w o place (Err e) found is low set left = subst (λ cs. IsReadable (notebook_of cs p.metadata)) (sym left) is

-- ---- a put

run_readable : (x : Content) → IsReadableContent x → AllByRecursion IsReadableOutput (run_of x).outputs
run_readable (content.Code e) is = is
run_readable (content.Markdown a) is = tt
run_readable (content.Raw a) is = tt

run_in_readable : (cs : List Cell) (id : List ℕ) → AllByRecursion IsReadableCell cs → AllByRecursion IsReadableOutput (run_in cs id).outputs
run_in_readable [] id are = tt
run_in_readable (c ∷ cs) id are = go (is_code_at id c) (run_in_readable cs id are.1)
  where
    go : (b : Bool) → AllByRecursion IsReadableOutput (run_in cs id).outputs → AllByRecursion IsReadableOutput (cond b (run_of c.content) (run_in cs id)).outputs
    go true rest = run_readable c.content are.0.content
    go false rest = rest

kept_readable : (runs : Bool) (put before : Execution) → AllByRecursion IsReadableOutput before.outputs → AllByRecursion IsReadableOutput (kept_run runs put before).outputs
kept_readable runs put before are = go (runs || is_some put.execution_count)
  where
    go : (keeps : Bool) → AllByRecursion IsReadableOutput (cond keeps before no_run).outputs
    go true = are
    go false = tt

put_readable_content : (ex : List (List ℕ)) (going : Option (List ℕ)) (before : List Cell) (c : Cell) → AllByRecursion IsReadableCell before → IsReadableCell c → IsReadableContent (put_cell ex going before c).content
put_readable_content ex going before c were is = by c.content (run_readable c.content is.content) is.content
  where
    run : (b : Bool) (put : Execution) → AllByRecursion IsReadableOutput put.outputs → AllByRecursion IsReadableOutput (cond b (kept_run (is_id c.id going) put (run_in before c.id)) put).outputs
    run true put are = kept_readable (is_id c.id going) put (run_in before c.id) (run_in_readable before c.id were)
    run false put are = are

    by : (x : Content) → AllByRecursion IsReadableOutput (run_of c.content).outputs → IsReadableContent x → IsReadableContent (with_run (put_run ex going before c) x)
    by (content.Code e) are old = run (is_among ex c.id) (run_of c.content) are
    by (content.Markdown a) are old = old
    by (content.Raw a) are old = old

put_readable_cells : (ex : List (List ℕ)) (going : Option (List ℕ)) (before cs : List Cell) → AllByRecursion IsReadableCell before → AllByRecursion IsReadableCell cs → AllByRecursion IsReadableCell (map (put_cell ex going before) cs)
put_readable_cells ex going before [] were are = tt
put_readable_cells ex going before (c ∷ cs) were are = (
  record { id = are.0.id; metadata = are.0.metadata; shallow = are.0.shallow; content = put_readable_content ex going before c were are.0 },
  put_readable_cells ex going before cs were are.1,
)

pub puts_readable : (ex : List (List ℕ)) (going : Option (List ℕ)) (before after : List Cell) (n : Notebook) → after ≡ map (put_cell ex going before) n.cells → AllByRecursion IsReadableCell before → IsReadable n → IsReadable (notebook_of after n.metadata)
puts_readable ex going before after n is were new = record {
  cells = subst (AllByRecursion IsReadableCell) (sym is) (put_readable_cells ex going before n.cells were new.cells);
  distinct = puts_once ex going before after n.cells is new.distinct;
  metadata = new.metadata;
  shallow = new.shallow;
}
