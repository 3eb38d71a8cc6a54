-- A notebook that was written reads back.
use Rattle.std.proofs.Common.{◌≡◌, ◌≤◌, ℕ, ℤ, pos, negsuc, ◌==◌, List, [], ◌∷◌, ◌++◌, map, Bool, true, false, cond, codes, Option, Some, None, Ok, option_map, refl, sym, ap, ◌∙◌, subst, inl, inr, ◌⊎◌}
use Rattle.std.proofs.lemmas.Bool.{eqb-true, or_cases, and_from}
use Rattle.std.proofs.lemmas.Str.{IsUtf8-append, is_utf8-from_IsUtf8}
use Rattle.json.proofs.Printed.Utf8.{IsUtf8-are_ascii}
use Rattle.std.specs.List.{AllByRecursion, concat, list_all}
use Rattle.std.specs.Str.{bytes_eq, IsUtf8, is_utf8}
use Rattle.serde_json.specs.Data.{Data, string, depth}
use Rattle.serde_json.specs.Find.{as_str}
use Rattle.serde_json.specs.Read.{read, max_depth}
use Rattle.serde_json.specs.View.{items_of}
use Rattle.serde_json.specs.Written.{has_float, outline, IsInOrder}
use Rattle.serde_json.proofs.Texts.{tokens_from_order}
use Rattle.json.specs.Layout.{pretty}
use Rattle.json.specs.Lex.{tokens}
use Rattle.json.specs.Tree.{json_tokens}
use Rattle.json_form.specs.declared.fault.Fault.TheVariants as form
use Rattle.json_form.specs.Forms.{of_kind, each, joined_items, joined_of, joined_at, text_at, object_at, text_has_float, whole_json, pretty_text}
use Rattle.json_form.proofs.Fields.{text_at-only}
use Rattle.nb_doc.specs.declared.draft.Age.TheVariants.{Current}
use Rattle.nb_doc.specs.declared.draft.Draft.{Draft}
use Rattle.nb_doc.specs.declared.notebook.Notebook.{Notebook}
use Rattle.nb_doc.specs.declared.notebook.Cell.{Cell}
use Rattle.nb_doc.specs.declared.notebook.Content.{Content}
use Rattle.nb_doc.specs.declared.notebook.Content.TheVariants as content
use Rattle.nb_doc.specs.declared.notebook.Execution.{Execution}
use Rattle.nb_doc.specs.declared.notebook.Output.{Output}
use Rattle.nb_doc.specs.declared.notebook.Output.TheVariants as output
use Rattle.nb_doc.specs.Steps.{◌>>=◌, pass}
use Rattle.nb_doc.specs.Fields.{texts_at, stream_of, error_of, output_named, output_of, outputs_at, count_of, count_at, execution_of, attachments_at, content_named, id_at, draft_of, cells_at, drafts_of}
use Rattle.nb_doc.specs.Ids.{is_allowed, are_distinct, standing, raised, raise}
use Rattle.nb_doc.specs.Reading.{number_at, age_of, ids_of, notebook_of, json_at, notebook_at}
use Rattle.nb_doc.specs.Writing.{lines_of, onto_first, texts_form, lines_form, join_onto, joined, stream_form, error_form, output_form, outputs_form, count_form, code_form, text_form, content_form, cell_form, cells_form, notebook_form}
use Rattle.nb_doc.specs.Documents.{IsObject, IsOutput, AreAttachments, IsContent, IsCell, ids, IsDocument, joined_content, joined_cell, joined_notebook}
use Rattle.nb_doc.proofs.Among.{same_if}
use Rattle.nb_doc.proofs.Trailing.{read-end, float-end}

-- ---- texts

texts_join : (ts : List (List ℕ)) → joined_items (items_of (map (λ t. string t) ts)) ≡ Ok (concat ts)
texts_join [] = refl
texts_join (t ∷ ts) = rw (texts_join ts) refl

first_join : (b : ℕ) (ls : List (List ℕ)) → concat (onto_first b ls) ≡ b ∷ concat ls
first_join b [] = refl
first_join b (l ∷ ls) = refl

line_join : (t : Bool) (b : ℕ) (ls : List (List ℕ)) → (b == 10) ≡ t → concat (cond t ((10 ∷ []) ∷ ls) (onto_first b ls)) ≡ b ∷ concat ls
line_join true b ls e = ap (λ x. x ∷ concat ls) (sym (eqb-true b 10 e))
line_join false b ls e = first_join b ls

lines_join : (s : List ℕ) → concat (lines_of s) ≡ s
unfolding lines_of
lines_join [] = refl
lines_join (b ∷ bs) = line_join (b == 10) b (lines_of bs) refl ∙ ap (λ r. b ∷ r) (lines_join bs)

lines_again : (s : List ℕ) → joined_of (lines_form s) ≡ Ok s
unfolding joined_of lines_form texts_form
lines_again s = texts_join (lines_of s) ∙ ap Ok (lines_join s)

texts_again : (ts : List (List ℕ)) → each (λ e. of_kind (as_str e)) (items_of (map (λ t. string t) ts)) ≡ Ok ts
texts_again [] = refl
texts_again (t ∷ ts) = rw (texts_again ts) refl

-- ---- outputs

kept_named : (kind : List ℕ) (d : Data) → (bytes_eq kind (codes "display_data") ≡ true) ⊎ (bytes_eq kind (codes "execute_result") ≡ true) → output_named kind d ≡ Ok (output.Kept d)
unfolding output_named
kept_named kind d (inl e) = rw (same_if kind (codes "display_data") e) refl
kept_named kind d (inr e) = rw (same_if kind (codes "execute_result") e) refl

output_again : (o : Output) → IsOutput o → output_of (output_form o) ≡ Ok o
unfolding output_of output_form output_named stream_of error_of text_at joined_at texts_at stream_form error_form texts_form
output_again (output.Stream name text) h = rw (lines_again text) refl
output_again (output.Error ename evalue traceback) h = rw (texts_again traceback) refl
output_again (output.Kept d) h = rw (text_at-only (codes "output_type") d h.kind h.has_kind) (kept_named h.kind d (or_cases (bytes_eq h.kind (codes "display_data")) (bytes_eq h.kind (codes "execute_result")) h.kept))

outputs_again : (os : List Output) → AllByRecursion IsOutput os → each output_of (items_of (map output_form os)) ≡ Ok os
outputs_again [] h = refl
outputs_again (o ∷ os) h = rw (output_again o h.0, outputs_again os h.1) refl

onto_each : (o : Output) (os : List Output) → IsOutput o → AllByRecursion IsOutput os → AllByRecursion IsOutput (join_onto o os)
onto_each (output.Stream a s) [] h k = (tt, tt)
onto_each (output.Stream a s) (output.Stream b t ∷ os) h k = go (bytes_eq a b)
  where
    go : (x : Bool) → AllByRecursion IsOutput (cond x (output.Stream a (s ++ t) ∷ os) (output.Stream a s ∷ output.Stream b t ∷ os))
    go true = (tt, k.1)
    go false = (tt, k)
onto_each (output.Stream a s) (output.Error e v t ∷ os) h k = (tt, k)
onto_each (output.Stream a s) (output.Kept d ∷ os) h k = (tt, k)
onto_each (output.Error e v t) os h k = (h, k)
onto_each (output.Kept d) os h k = (h, k)

joined_each : (os : List Output) → AllByRecursion IsOutput os → AllByRecursion IsOutput (joined os)
unfolding joined
joined_each [] h = tt
joined_each (o ∷ os) h = onto_each o (joined os) h.0 (joined_each os h.1)

-- ---- cells

count_kind : (o : Option ℤ) → of_kind (count_of (count_form o)) ≡ Ok o
unfolding count_form
count_kind None = refl
count_kind (Some (pos n)) = refl
count_kind (Some (negsuc n)) = refl

count_again : (e : Execution) (id source : List ℕ) (metadata : Data) → count_at (code_form id metadata source e) ≡ Ok e.execution_count
unfolding count_at code_form
count_again e id source metadata = count_kind e.execution_count

outputs_field_again : (e : Execution) (id source : List ℕ) (metadata : Data) → AllByRecursion IsOutput e.outputs → outputs_at (code_form id metadata source e) ≡ Ok (joined e.outputs)
unfolding outputs_at code_form outputs_form
outputs_field_again e id source metadata h = outputs_again (joined e.outputs) (joined_each e.outputs h)

execution_again : (e : Execution) (id source : List ℕ) (metadata : Data) → AllByRecursion IsOutput e.outputs → execution_of (code_form id metadata source e) ≡ Ok (record e { outputs = joined e.outputs })
unfolding execution_of
execution_again e id source metadata h = rw (count_again e id source metadata, outputs_field_again e id source metadata h) refl

abbrev draft_by : List ℕ → Data → List ℕ → Content → Draft
draft_by id metadata source k = record { id = Some id; metadata = metadata; source = source; content = joined_content k }

draft_from : (d metadata : Data) (kind id source : List ℕ) (k : Content) → text_at (codes "cell_type") d ≡ Ok kind → id_at Current d ≡ Ok (Some id) → object_at (codes "metadata") d ≡ Ok metadata
    → joined_at (codes "source") d ≡ Ok source → content_named kind d ≡ Ok k → draft_of Current d ≡ Ok (record { id = Some id; metadata = metadata; source = source; content = k })
unfolding draft_of
draft_from d metadata kind id source k t i m s c = rw (t, i, m, s, c) refl

code_kind : (e : Execution) (id source : List ℕ) (metadata : Data) → text_at (codes "cell_type") (code_form id metadata source e) ≡ Ok (codes "code")
unfolding text_at code_form
code_kind e id source metadata = refl

code_id : (e : Execution) (id source : List ℕ) (metadata : Data) → id_at Current (code_form id metadata source e) ≡ Ok (Some id)
unfolding id_at code_form
code_id e id source metadata = refl

code_metadata : (e : Execution) (id source : List ℕ) (metadata : Data) → IsObject metadata → object_at (codes "metadata") (code_form id metadata source e) ≡ Ok metadata
unfolding object_at code_form
code_metadata e id source metadata m = ap of_kind m

code_source : (e : Execution) (id source : List ℕ) (metadata : Data) → joined_at (codes "source") (code_form id metadata source e) ≡ Ok source
unfolding joined_at code_form
code_source e id source metadata = lines_again source

code_content : (e : Execution) (id source : List ℕ) (metadata : Data) → AllByRecursion IsOutput e.outputs → content_named (codes "code") (code_form id metadata source e) ≡ Ok (joined_content (content.Code e))
unfolding content_named
code_content e id source metadata h = rw (execution_again e id source metadata h) refl

code_again : (e : Execution) (id source : List ℕ) (metadata : Data) → IsObject metadata → AllByRecursion IsOutput e.outputs
    → draft_of Current (code_form id metadata source e) ≡ Ok (draft_by id metadata source (content.Code e))
code_again e id source metadata m h =
    draft_from (code_form id metadata source e) metadata (codes "code") id source (joined_content (content.Code e)) (code_kind e id source metadata) (code_id e id source metadata) (code_metadata e id source metadata m)
    (code_source e id source metadata) (code_content e id source metadata h)

text_kind : (kind id source : List ℕ) (metadata : Data) (a : Option Data) → text_at (codes "cell_type") (text_form kind id metadata source a) ≡ Ok kind
unfolding text_at text_form
text_kind kind id source metadata None = refl
text_kind kind id source metadata (Some d) = refl

text_id : (kind id source : List ℕ) (metadata : Data) (a : Option Data) → id_at Current (text_form kind id metadata source a) ≡ Ok (Some id)
unfolding id_at text_form
text_id kind id source metadata None = refl
text_id kind id source metadata (Some d) = refl

text_metadata : (kind id source : List ℕ) (metadata : Data) (a : Option Data) → IsObject metadata → object_at (codes "metadata") (text_form kind id metadata source a) ≡ Ok metadata
unfolding object_at text_form
text_metadata kind id source metadata None m = ap of_kind m
text_metadata kind id source metadata (Some d) m = ap of_kind m

text_source : (kind id source : List ℕ) (metadata : Data) (a : Option Data) → joined_at (codes "source") (text_form kind id metadata source a) ≡ Ok source
unfolding joined_at text_form
text_source kind id source metadata None = lines_again source
text_source kind id source metadata (Some d) = lines_again source

attachments_again : (kind id source : List ℕ) (metadata : Data) (a : Option Data) → AreAttachments a → attachments_at (text_form kind id metadata source a) ≡ Ok a
unfolding attachments_at text_form
attachments_again kind id source metadata None h = refl
attachments_again kind id source metadata (Some d) h = ap (λ o. of_kind (option_map (λ x. Some x) o)) h

markdown_content : (id source : List ℕ) (metadata : Data) (a : Option Data) → AreAttachments a → content_named (codes "markdown") (text_form (codes "markdown") id metadata source a) ≡ Ok (content.Markdown a)
unfolding content_named
markdown_content id source metadata a h = rw (attachments_again (codes "markdown") id source metadata a h) refl

raw_content : (id source : List ℕ) (metadata : Data) (a : Option Data) → AreAttachments a → content_named (codes "raw") (text_form (codes "raw") id metadata source a) ≡ Ok (content.Raw a)
unfolding content_named
raw_content id source metadata a h = rw (attachments_again (codes "raw") id source metadata a h) refl

text_again : (kind id source : List ℕ) (metadata : Data) (a : Option Data) (k : Content) → IsObject metadata → content_named kind (text_form kind id metadata source a) ≡ Ok k
    → draft_of Current (text_form kind id metadata source a) ≡ Ok (record { id = Some id; metadata = metadata; source = source; content = k })
text_again kind id source metadata a k m c =
    draft_from (text_form kind id metadata source a) metadata kind id source k (text_kind kind id source metadata a) (text_id kind id source metadata a) (text_metadata kind id source metadata a m)
    (text_source kind id source metadata a) c

abbrev draft_for : Cell → Draft
draft_for c = draft_by c.id c.metadata c.source c.content

content_again : (k : Content) (id source : List ℕ) (metadata : Data) → IsObject metadata → IsContent k → draft_of Current (content_form id metadata source k) ≡ Ok (draft_by id metadata source k)
content_again (content.Code e) id source metadata m h = code_again e id source metadata m h
content_again (content.Markdown a) id source metadata m h = text_again (codes "markdown") id source metadata a (content.Markdown a) m (markdown_content id source metadata a h)
content_again (content.Raw a) id source metadata m h = text_again (codes "raw") id source metadata a (content.Raw a) m (raw_content id source metadata a h)

cell_again : (c : Cell) → IsCell c → draft_of Current (cell_form c) ≡ Ok (draft_for c)
unfolding cell_form
cell_again c h = content_again c.content c.id c.source c.metadata h.metadata h.content

cells_again : (cs : List Cell) → AllByRecursion IsCell cs → each (draft_of Current) (items_of (map cell_form cs)) ≡ Ok (map draft_for cs)
cells_again [] h = refl
cells_again (c ∷ cs) h = rw (cell_again c h.0, cells_again cs h.1) refl

-- ---- ids

standing_again : (cs : List Cell) → standing (map draft_for cs) ≡ ids cs
standing_again [] = refl
standing_again (c ∷ cs) = ap (λ r. c.id ∷ r) (standing_again cs)

are_allowed : (cs : List Cell) → AllByRecursion IsCell cs → list_all is_allowed (ids cs) ≡ true
are_allowed [] h = refl
are_allowed (c ∷ cs) h = and_from (is_allowed c.id) (list_all is_allowed (ids cs)) h.0.id (are_allowed cs h.1)

raised_again : (cs : List Cell) (taken : List (List ℕ)) → raised taken (map draft_for cs) ≡ map joined_cell cs
raised_again [] taken = refl
raised_again (c ∷ cs) taken = ap (λ r. joined_cell c ∷ r) (raised_again cs taken)

ids_again : (cs : List Cell) → AllByRecursion IsCell cs → are_distinct (ids cs) ≡ true → ids_of (map draft_for cs) ≡ Ok tt
unfolding ids_of
ids_again cs h d = rw (standing_again cs, are_allowed cs h, d) refl

raise_again : (cs : List Cell) → raise (map draft_for cs) ≡ map joined_cell cs
unfolding raise
raise_again cs = raised_again cs (standing (map draft_for cs))

-- ---- the notebook

drafts_again : (n : Notebook) → IsDocument n → drafts_of Current (notebook_form n) ≡ Ok (record { cells = map draft_for n.cells; metadata = n.metadata })
unfolding drafts_of cells_at object_at notebook_form cells_form
drafts_again n h = rw (cells_again n.cells h.cells, h.metadata) refl

age_again : (n : Notebook) → age_of (notebook_form n) ≡ Ok Current
unfolding age_of number_at notebook_form
age_again n = refl

pub notebook_again : (n : Notebook) → IsDocument n → notebook_of (notebook_form n) ≡ Ok (joined_notebook n)
unfolding notebook_of joined_notebook
notebook_again n h = rw (age_again n, drafts_again n h, ids_again n.cells h.cells h.distinct, raise_again n.cells) refl

-- ---- the text

utf8_end : (text : List ℕ) → IsUtf8 text → is_utf8 (text ++ 10 ∷ []) ≡ true
utf8_end text u = is_utf8-from_IsUtf8 (text ++ 10 ∷ []) (IsUtf8-append text (10 ∷ []) u (IsUtf8-are_ascii (10 ∷ []) refl))

json_again : (text : List ℕ) (d : Data) → IsUtf8 text → read text ≡ Some d → text_has_float text ≡ false → json_at (text ++ 10 ∷ []) ≡ Ok d
unfolding json_at whole_json
json_again text d u r w = let numbers = float-end text ∙ w in rw (utf8_end text u, read-end text, r, numbers) refl

pub json_back : (n : Notebook) (text : List ℕ) (d : Data) → d ≡ notebook_form n → IsUtf8 text → (depth d ≤ max_depth → read text ≡ Some d) → text_has_float text ≡ false
    → depth (notebook_form n) ≤ max_depth → json_at (text ++ 10 ∷ []) ≡ Ok (notebook_form n)
json_back n text d is u r w deep =
    let shallow : depth d ≤ max_depth = subst (λ x. depth x ≤ max_depth) (sym is) deep in
    json_again text d u (r shallow) w ∙ ap (λ x. Ok x) is

pub reads_back : (n : Notebook) (text : List ℕ) (d : Data) → d ≡ notebook_form n → IsUtf8 text → (depth d ≤ max_depth → read text ≡ Some d) → text_has_float text ≡ false → IsDocument n
    → depth (notebook_form n) ≤ max_depth → notebook_at (text ++ 10 ∷ []) ≡ Ok (joined_notebook n)
unfolding notebook_at
reads_back n text d is u r w h deep =
    ap (λ j. pass j >>= notebook_of) (json_back n text d is u r w deep) ∙ notebook_again n h

pub pretty_is : (text : List ℕ) (d form : Data) → text ≡ pretty (tokens text) → IsInOrder text d → has_float d ≡ false → d ≡ form → text ≡ pretty_text form
unfolding pretty_text
pretty_is text d form layout order w is = layout ∙ ap pretty (tokens_from_order text d order w) ∙ ap (λ x. pretty (json_tokens (outline x))) is
