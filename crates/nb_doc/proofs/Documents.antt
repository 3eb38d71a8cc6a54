-- What is read is a document of 4.5.
use Rattle.std.proofs.Common.{◌≡◌, ℕ, ◌<◌, ◌^◌, List, [], ◌∷◌, length, Bool, true, false, cond, ◌&&◌, codes, Option, Some, None, option_and_then, option_map, Result, Ok, Err, IfOk, refl, sym, ap, ◌∙◌, subst}
use Rattle.std.specs.List.{AllByRecursion, list_all}
use Rattle.serde_json.specs.Data.{Data, null, boolean, number, string, array, object, Items, no_items, item, Members as MemberList}
use Rattle.serde_json.specs.Find.{get, as_object}
use Rattle.json_form.specs.Forms.{Has, object_of}
use Rattle.nb_doc.specs.declared.notebook.Notebook.{Notebook}
use Rattle.nb_doc.specs.declared.notebook.Cell.{Cell}
use Rattle.nb_doc.specs.declared.notebook.Content.{Content}
use Rattle.nb_doc.specs.declared.notebook.Content.TheVariants as content
use Rattle.nb_doc.specs.declared.notebook.Output.{Output}
use Rattle.nb_doc.specs.declared.notebook.Output.TheVariants as output
use Rattle.nb_doc.specs.declared.fault.NbBad.{NbBad}
use Rattle.nb_doc.specs.Ids.{is_allowed, are_distinct}
use Rattle.nb_doc.specs.Documents.{IsObject, IsKept, IsOutput, AreAttachments, IsContent, IsCell, ids, IsDocument}
use Rattle.nb_doc.specs.TextForms.{Members, IsOutputOf, HasAttachments, IsContentOf, IsCellOf, IsNotebook, IsNotebookText}
use Rattle.nb_doc.proofs.Raised.{ids_are_good}

object_is : (d e : Data) → object_of d ≡ Some e → IsObject e
object_is null e h = cc
object_is (boolean b) e h = cc
object_is (number n) e h = cc
object_is (string s) e h = cc
object_is (array ds) e h = cc
object_is (object ms) e h = let same : object ms ≡ e = cc in subst IsObject same refl

object_in : (o : Option Data) (e : Data) → option_and_then object_of o ≡ Some e → IsObject e
object_in None e h = cc
object_in (Some d) e h = object_is d e h

output_is : (d : Data) (o : Output) → IsOutputOf d o → IsOutput o
output_is d (output.Stream name text) h = tt
output_is d (output.Error ename evalue traceback) h = tt
output_is d (output.Kept e) h = subst IsKept (sym h.0) h.1

outputs_are : (ds : Items) (os : List Output) → Members IsOutputOf ds os → AllByRecursion IsOutput os
outputs_are no_items [] h = tt
outputs_are no_items (o ∷ os) h = absurd h
outputs_are (item d ds) [] h = absurd h
outputs_are (item d ds) (o ∷ os) h = (output_is d o h.0, outputs_are ds os h.1)

attachments_are : (d : Data) (a : Option Data) → HasAttachments d a → AreAttachments a
attachments_are d None h = tt
attachments_are d (Some a) h = object_in (get (codes "attachments") d) a h

content_is : (d : Data) (c : Content) → IsContentOf d c → IsContent c
content_is d (content.Code e) h = outputs_are h.outputs.items e.outputs h.outputs.members
content_is d (content.Markdown a) h = attachments_are d a h.1
content_is d (content.Raw a) h = attachments_are d a h.1

both : (a b : Bool) → (a && b) ≡ true → (a ≡ true) × (b ≡ true)
both true b h = (refl, h)
both false b h = cc

cells_are : (ds : Items) (cs : List Cell) → Members IsCellOf ds cs → list_all is_allowed (ids cs) ≡ true → AllByRecursion IsCell cs
cells_are no_items [] h allowed = tt
cells_are no_items (c ∷ cs) h allowed = absurd h
cells_are (item d ds) [] h allowed = absurd h
cells_are (item d ds) (c ∷ cs) h allowed =
    let a = both (is_allowed c.id) (list_all is_allowed (ids cs)) allowed in
    (record { id = a.0; metadata = object_in (get (codes "metadata") d) c.metadata h.0.metadata; content = content_is d c.content h.0.content }, cells_are ds cs h.1 a.1)

document_is : (d : Data) (n : Notebook) → IsNotebook d n → length n.cells < 2 ^ 64 → IsDocument n
document_is d n h few =
    let good = ids_are_good h.age h.items n.cells h.ids few h.allowed h.distinct in
    record { cells = cells_are h.items n.cells h.cells good.0; distinct = good.1; metadata = object_in (get (codes "metadata") d) n.metadata h.metadata }

abbrev pub AreFew : Notebook → Type 0
AreFew n = length n.cells < 2 ^ 64

pub document_if_found : (r : Result Notebook NbBad) (text : List ℕ) → IfOk r (IsNotebookText text) → IfOk r AreFew → IfOk r IsDocument
document_if_found (Ok n) text h few = document_is h.value n h.notebook few
document_if_found (Err e) text h few = tt

pub value_document_if_found : (r : Result Notebook NbBad) (d : Data) → IfOk r (IsNotebook d) → IfOk r AreFew → IfOk r IsDocument
value_document_if_found (Ok n) d h few = document_is d n h few
value_document_if_found (Err e) d h few = tt
