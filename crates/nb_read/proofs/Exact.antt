-- What was read here is what the definition gives.
use Rattle.std.proofs.Common.{◌≡◌, ◌≤◌, ◌<◌, ◌^◌, ℕ, List, length, false, cond, Some, Result, Ok, Err, IfOk, sym, ap, ◌∙◌}
use Rattle.std.specs.Str.{IsUtf8}
use Rattle.std.proofs.lemmas.Str.{is_utf8-from_IsUtf8}
use Rattle.serde_json.specs.Data.{Data, depth}
use Rattle.serde_json.specs.Read.{max_depth, read}
use Rattle.json_form.specs.declared.fault.Fault.TheVariants.{NotJson}
use Rattle.json_form.specs.Forms.{if_whole, text_has_float, whole_json}
use Rattle.nb_doc.specs.declared.notebook.Notebook.{Notebook}
use Rattle.nb_doc.specs.Steps.{◌>>=◌, pass, Answers}
use Rattle.nb_doc.specs.Documents.{IsDocument}
use Rattle.nb_doc.specs.Reading.{json_at, notebook_of, notebook_at}
use Rattle.nb_doc.specs.TextForms.{IsNotebook, IsNotebookText}
use Rattle.nb_doc.specs.Writing.{notebook_form}
use Rattle.nb_doc.proofs.Law.{notebook_only}
use Rattle.nb_doc.proofs.Documents.{document_if_found, value_document_if_found}
use Rattle.nb_doc.proofs.Shallow.{shallow_if_found, value_shallow_if_found}
use Rattle.nb_read.specs.declared.unread.Unread.{Unread}

pub text_exact : (text : List ℕ) (n : Notebook) → IsNotebookText text n → notebook_at text ≡ Ok n
unfolding notebook_at json_at whole_json
text_exact text n h =
    ap (λ b. pass (cond b (if_whole (text_has_float text) (read text)) (Err NotJson)) >>= notebook_of) (is_utf8-from_IsUtf8 text h.utf8)
    ∙ ap (λ b. pass (if_whole b (read text)) >>= notebook_of) h.whole
    ∙ ap (λ o. pass (if_whole false o) >>= notebook_of) h.reads
    ∙ notebook_only h.value n h.notebook

pub text_only : (text : List ℕ) (n : Notebook) → IsNotebookText text n → (m : Notebook) → IsNotebookText text m → Answers (Ok n) (Ok m)
text_only text n h m k = sym (text_exact text m k) ∙ text_exact text n h

pub text_document : (text : List ℕ) (n : Notebook) → IsNotebookText text n → length n.cells < 2 ^ 64 → IsDocument n
text_document text n h few = document_if_found (Ok n) text h few

pub text_shallow : (text : List ℕ) (n : Notebook) → IsNotebookText text n → depth (notebook_form n) ≤ max_depth
text_shallow text n h = shallow_if_found (Ok n) text h

pub value_document : (d : Data) (r : Result Notebook Unread) → IfOk r (IsNotebook d) → IfOk r (λ n. length n.cells < 2 ^ 64) → IfOk r IsDocument
value_document d (Ok n) h few = value_document_if_found (Ok n) d h few
value_document d (Err e) h few = tt

pub value_shallow : (d : Data) (r : Result Notebook Unread) → IfOk r (IsNotebook d) → depth d ≤ max_depth → IfOk r (λ n. depth (notebook_form n) ≤ max_depth)
value_shallow d (Ok n) h low = value_shallow_if_found (Ok n) d h low
value_shallow d (Err e) h low = tt

pub text_found : (text : List ℕ) (d : Data) (r : Result Notebook Unread) → IsUtf8 text → read text ≡ Some d → text_has_float text ≡ false → IfOk r (IsNotebook d) → IfOk r (IsNotebookText text)
text_found text d (Ok n) utf8 reads whole h = record { utf8 = utf8; value = d; reads = reads; whole = whole; notebook = h }
text_found text d (Err e) utf8 reads whole h = tt
