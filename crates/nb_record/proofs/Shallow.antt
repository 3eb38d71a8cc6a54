-- A notebook is readable exactly where it is a document that nests no deeper, once it is written, than JSON is read.
use Rattle.std.proofs.Common.{◌≡◌, ℕ, suc, ◌+◌, ◌≤◌, max, ℤ, List, [], ◌∷◌, ◌++◌, map, Bool, true, false, cond, Option, Some, None, sym, ap, ◌∙◌, subst, arith}
use Rattle.std.specs.List.{AllByRecursion}
use Rattle.std.proofs.Math.Nat.{max-le}
use Rattle.std.specs.Prelude.{Result, Ok, Err, OnOk}
use Rattle.std.specs.Str.{bytes_eq}
use Rattle.serde_json.specs.Data.{Data, string, depth, items_depth}
use Rattle.serde_json.specs.Read.{max_depth}
use Rattle.serde_json.specs.View.{items_of}
use Rattle.nb_doc.specs.declared.notebook.Notebook.{Notebook}
use Rattle.nb_doc.specs.declared.notebook.Cell.{Cell}
use Rattle.nb_doc.specs.declared.notebook.Content.{Content}
use Rattle.nb_doc.specs.declared.notebook.Content.TheVariants as content
use Rattle.nb_doc.specs.declared.notebook.Execution.{Execution}
use Rattle.nb_doc.specs.declared.notebook.Output.{Output}
use Rattle.nb_doc.specs.declared.notebook.Output.TheVariants as output
use Rattle.nb_doc.specs.Building.{empty_notebook}
use Rattle.nb_doc.specs.Documents.{IsOutput, AreAttachments, IsContent, IsCell, IsDocument, joined_notebook}
use Rattle.nb_doc.specs.Reading.{notebook_at}
use Rattle.nb_doc.specs.Writing.{texts_form, lines_of, lines_form, join_onto, joined, stream_form, error_form, output_form, outputs_form, count_form, code_form, text_form, content_form, cell_form, cells_form, notebook_form, notebook_text}
use Rattle.nb_record.specs.Readable.{IsReadableOutput, AreReadableAttachments, IsReadableContent, IsReadableCell, IsReadable}

-- ---- what a cell shows nests little

texts_low : (ts : List (List ℕ)) → depth (texts_form ts) ≤ 1
unfolding texts_form
texts_low ts = let low = go ts in omega arith
  where
    go : (us : List (List ℕ)) → items_depth (items_of (map (λ t. string t) us)) ≤ 0
    go [] = omega arith
    go (u ∷ us) = max-le (omega arith) (go us)

lines_low : (s : List ℕ) → depth (lines_form s) ≤ 1
unfolding lines_form
lines_low s = texts_low (lines_of s)

pub stream_low : (name text : List ℕ) → depth (output_form (output.Stream name text)) ≤ 123
unfolding output_form stream_form
stream_low name text = let low = lines_low text in omega arith

pub error_low : (ename evalue : List ℕ) (traceback : List (List ℕ)) → depth (output_form (output.Error ename evalue traceback)) ≤ 123
unfolding output_form error_form
error_low ename evalue traceback = let low = texts_low traceback in omega arith

count_low : (c : Option ℤ) → depth (count_form c) ≤ 0
unfolding count_form
count_low None = omega arith
count_low (Some z) = omega arith

-- ---- outputs, joined or not

abbrev IsLow : Output → Type 0
IsLow o = depth (output_form o) ≤ 123

join_low : (o : Output) (os : List Output) → IsLow o → AllByRecursion IsLow os → AllByRecursion IsLow (join_onto o os)
join_low (output.Stream a s) [] low rest = (low, tt)
join_low (output.Stream a s) (output.Stream b t ∷ os) low rest = go (bytes_eq a b)
  where
    go : (same : Bool) → AllByRecursion IsLow (cond same (output.Stream a (s ++ t) ∷ os) (output.Stream a s ∷ output.Stream b t ∷ os))
    go true = (stream_low a (s ++ t), rest.1)
    go false = (low, rest)
join_low (output.Stream a s) (output.Error e v t ∷ os) low rest = (low, rest)
join_low (output.Stream a s) (output.Kept d ∷ os) low rest = (low, rest)
join_low (output.Error e v t) os low rest = (low, rest)
join_low (output.Kept d) os low rest = (low, rest)

joined_low : (os : List Output) → AllByRecursion IsLow os → AllByRecursion IsLow (joined os)
unfolding joined
joined_low [] low = tt
joined_low (o ∷ os) low = join_low o (joined os) low.0 (joined_low os low.1)

apart_low : (o : Output) (os : List Output) → AllByRecursion IsLow (join_onto o os) → IsLow o × AllByRecursion IsLow os
apart_low (output.Stream a s) [] low = (low.0, tt)
apart_low (output.Stream a s) (output.Stream b t ∷ os) low = (stream_low a s, (stream_low b t, go (bytes_eq a b) low))
  where
    go : (same : Bool) → AllByRecursion IsLow (cond same (output.Stream a (s ++ t) ∷ os) (output.Stream a s ∷ output.Stream b t ∷ os)) → AllByRecursion IsLow os
    go true h = h.1
    go false h = h.1.1
apart_low (output.Stream a s) (output.Error e v t ∷ os) low = low
apart_low (output.Stream a s) (output.Kept d ∷ os) low = low
apart_low (output.Error e v t) os low = low
apart_low (output.Kept d) os low = low

unjoined_low : (os : List Output) → AllByRecursion IsLow (joined os) → AllByRecursion IsLow os
unfolding joined
unjoined_low [] low = tt
unjoined_low (o ∷ os) low = let split = apart_low o (joined os) low in (split.0, unjoined_low os split.1)

forms_low : (os : List Output) → AllByRecursion IsLow os → items_depth (items_of (map output_form os)) ≤ 123
forms_low [] low = omega arith
forms_low (o ∷ os) low = max-le low.0 (forms_low os low.1)

low_forms : (os : List Output) → items_depth (items_of (map output_form os)) ≤ 123 → AllByRecursion IsLow os
low_forms [] h = tt
low_forms (o ∷ os) h = (omega arith, low_forms os (omega arith))

outputs_low : (os : List Output) → AllByRecursion IsLow os → depth (outputs_form os) ≤ 124
unfolding outputs_form
outputs_low os low = let most = forms_low (joined os) (joined_low os low) in omega arith

low_outputs : (os : List Output) → depth (outputs_form os) ≤ 124 → AllByRecursion IsLow os
unfolding outputs_form
low_outputs os h = unjoined_low os (low_forms (joined os) (omega arith))

-- ---- from documents

outputs_from : (os : List Output) → AllByRecursion IsOutput os → AllByRecursion IsLow os → AllByRecursion IsReadableOutput os
outputs_from [] are low = tt
outputs_from (o ∷ os) are low = (record { document = are.0; shallow = low.0 }, outputs_from os are.1 low.1)

abbrev IsLowCell : Cell → Type 0
IsLowCell c = depth (cell_form c) ≤ 125

code_from : (id : List ℕ) (metadata : Data) (source : List ℕ) (e : Execution) → depth (code_form id metadata source e) ≤ 125 → (depth metadata ≤ 124) × (depth (outputs_form e.outputs) ≤ 124)
unfolding code_form
code_from id metadata source e low = (omega arith, omega arith)

text_from : (kind id : List ℕ) (metadata : Data) (source : List ℕ) (a : Option Data) → AreAttachments a → depth (text_form kind id metadata source a) ≤ 125 → (depth metadata ≤ 124) × AreReadableAttachments a
unfolding text_form
text_from kind id metadata source None are low = (omega arith, tt)
text_from kind id metadata source (Some a) are low = (omega arith, (are, omega arith))

content_from : (id : List ℕ) (metadata : Data) (source : List ℕ) (c : Content) → IsContent c → depth (content_form id metadata source c) ≤ 125 → (depth metadata ≤ 124) × IsReadableContent c
content_from id metadata source (content.Code e) is low = let split = code_from id metadata source e low in (split.0, outputs_from e.outputs is (low_outputs e.outputs split.1))
content_from id metadata source (content.Markdown a) is low = text_from _ id metadata source a is low
content_from id metadata source (content.Raw a) is low = text_from _ id metadata source a is low

cell_from : (c : Cell) → IsCell c → IsLowCell c → IsReadableCell c
unfolding cell_form
cell_from c is low =
    let split = content_from c.id c.metadata c.source c.content is.content low in
    record { id = is.id; metadata = is.metadata; shallow = split.0; content = split.1 }

cells_from : (cs : List Cell) → AllByRecursion IsCell cs → items_depth (items_of (map cell_form cs)) ≤ 125 → AllByRecursion IsReadableCell cs
cells_from [] are low = tt
cells_from (c ∷ cs) are low = (cell_from c are.0 (omega arith), cells_from cs are.1 (omega arith))

pub readable_from : (n : Notebook) → IsDocument n → depth (notebook_form n) ≤ max_depth → IsReadable n
unfolding notebook_form cells_form
readable_from n is low = record { cells = cells_from n.cells is.cells (omega arith); distinct = is.distinct; metadata = is.metadata; shallow = omega arith }

-- ---- to documents

outputs_to : (os : List Output) → AllByRecursion IsReadableOutput os → AllByRecursion IsOutput os × AllByRecursion IsLow os
outputs_to [] are = (tt, tt)
outputs_to (o ∷ os) are = let rest = outputs_to os are.1 in ((are.0.document, rest.0), (are.0.shallow, rest.1))

attachments_to : (a : Option Data) → AreReadableAttachments a → AreAttachments a
attachments_to None are = tt
attachments_to (Some d) are = are.0

content_to : (c : Content) → IsReadableContent c → IsContent c
content_to (content.Code e) is = (outputs_to e.outputs is).0
content_to (content.Markdown a) is = attachments_to a is
content_to (content.Raw a) is = attachments_to a is

cells_to : (cs : List Cell) → AllByRecursion IsReadableCell cs → AllByRecursion IsCell cs
cells_to [] are = tt
cells_to (c ∷ cs) are = (record { id = are.0.id; metadata = are.0.metadata; content = content_to c.content are.0.content }, cells_to cs are.1)

pub document_of : (n : Notebook) → IsReadable n → IsDocument n
document_of n is = record { cells = cells_to n.cells is.cells; distinct = is.distinct; metadata = is.metadata }

code_low : (id : List ℕ) (metadata : Data) (source : List ℕ) (e : Execution) → depth metadata ≤ 124 → depth (outputs_form e.outputs) ≤ 124 → depth (code_form id metadata source e) ≤ 125
unfolding code_form
code_low id metadata source e m o = let c = count_low e.execution_count in let l = lines_low source in omega arith

text_low : (kind id : List ℕ) (metadata : Data) (source : List ℕ) (a : Option Data) → depth metadata ≤ 124 → AreReadableAttachments a → depth (text_form kind id metadata source a) ≤ 125
unfolding text_form
text_low kind id metadata source None m are = let l = lines_low source in omega arith
text_low kind id metadata source (Some a) m are = let l = lines_low source in omega arith

content_low : (id : List ℕ) (metadata : Data) (source : List ℕ) (c : Content) → depth metadata ≤ 124 → IsReadableContent c → depth (content_form id metadata source c) ≤ 125
content_low id metadata source (content.Code e) m is = code_low id metadata source e m (outputs_low e.outputs (outputs_to e.outputs is).1)
content_low id metadata source (content.Markdown a) m is = text_low _ id metadata source a m is
content_low id metadata source (content.Raw a) m is = text_low _ id metadata source a m is

cell_low : (c : Cell) → IsReadableCell c → IsLowCell c
unfolding cell_form
cell_low c is = content_low c.id c.metadata c.source c.content is.shallow is.content

cells_low : (cs : List Cell) → AllByRecursion IsReadableCell cs → items_depth (items_of (map cell_form cs)) ≤ 125
cells_low [] are = omega arith
cells_low (c ∷ cs) are = max-le (cell_low c are.0) (cells_low cs are.1)

pub shallow_of : (n : Notebook) → IsReadable n → depth (notebook_form n) ≤ max_depth
unfolding notebook_form cells_form
shallow_of n is = let cells = cells_low n.cells is.cells in let metadata = is.shallow in omega arith

pub empty_shallow : depth (notebook_form empty_notebook) ≤ max_depth
unfolding notebook_form cells_form
empty_shallow = omega arith

-- ---- what was saved reads back

pub saved : {E : Type 0} (r : Result (Unit {0}) E) (inside n : Notebook) (bytes : List ℕ) → inside ≡ n → IsReadable inside → bytes ≡ notebook_text inside
    → (IsDocument inside → depth (notebook_form inside) ≤ max_depth → notebook_at bytes ≡ Ok (joined_notebook inside)) → OnOk r (notebook_at (notebook_text n) ≡ Ok (joined_notebook n))
saved (Ok done) inside n bytes same is text reads =
    subst (λ m. notebook_at (notebook_text m) ≡ Ok (joined_notebook m)) same (ap notebook_at (sym text) ∙ reads (document_of inside is) (shallow_of inside is))
saved (Err e) inside n bytes same is text reads = tt
