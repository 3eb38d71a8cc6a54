-- What is read nests no deeper than JSON may once it is written.
use Rattle.std.proofs.Common.{◌≡◌, ℕ, suc, ◌+◌, ◌≤◌, max, ℤ, List, [], ◌∷◌, ◌++◌, map, Bool, true, false, cond, codes, Option, Some, None, option_and_then, option_map, Ordering, Less, Equal, Greater, Result, Ok, Err, IfOk, refl, sym, ap, ◌∙◌, subst, arith}
use Rattle.std.proofs.Math.Nat.{max-le}
use Rattle.std.specs.Cmp.Lexicographic.{slice_cmp}
use Rattle.std.specs.Ordering.{nat_cmp, match_ordering}
use Rattle.std.specs.Str.{bytes_eq}
use Rattle.serde_json.proofs.Nesting.{depth-read}
use Rattle.serde_json.specs.Data.{Data, null, boolean, number, string, array, object, Items, no_items, item, Members as MemberList, no_members, member, depth, items_depth, members_depth}
use Rattle.serde_json.specs.Find.{get, get_member, as_array}
use Rattle.serde_json.specs.Read.{max_depth}
use Rattle.serde_json.specs.View.{items_of}
use Rattle.json_form.specs.Forms.{Has, object_of}
use Rattle.nb_doc.specs.declared.fault.NbBad.{NbBad}
use Rattle.nb_doc.specs.declared.notebook.Notebook.{Notebook}
use Rattle.nb_doc.specs.declared.notebook.Cell.{Cell}
use Rattle.nb_doc.specs.declared.notebook.Content.{Content}
use Rattle.nb_doc.specs.declared.notebook.Content.TheVariants as content
use Rattle.nb_doc.specs.declared.notebook.Execution.{Execution}
use Rattle.nb_doc.specs.declared.notebook.Output.{Output}
use Rattle.nb_doc.specs.declared.notebook.Output.TheVariants as output
use Rattle.nb_doc.specs.TextForms.{Members, IsOutputOf, HasAttachments, IsContentOf, IsCellOf, IsNotebook, IsNotebookText}
use Rattle.nb_doc.specs.Writing.{texts_form, lines_of, lines_form, join_onto, joined, stream_form, error_form, output_form, outputs_form, count_form, code_form, text_form, content_form, cell_form, cells_form, notebook_form}

-- ---- what stands in a value is less deep

member_depth : (k : List ℕ) (ms : MemberList) (e : Data) → get_member k ms ≡ Some e → depth e ≤ members_depth ms
member_depth k no_members e h = cc
member_depth k (member l d ms) e h = go (slice_cmp nat_cmp k l) h (λ g. member_depth k ms e g)
  where
    go : (o : Ordering) → match_ordering o (get_member k ms) (Some d) (get_member k ms) ≡ Some e → (get_member k ms ≡ Some e → depth e ≤ members_depth ms) → depth e ≤ max (depth d) (members_depth ms)
    go Less g rest = let low = rest g in omega arith
    go Equal g rest = let same : d ≡ e = cc in let low = ap depth same in omega arith
    go Greater g rest = let low = rest g in omega arith

pub get_depth : (k : List ℕ) (d e : Data) → get k d ≡ Some e → suc (depth e) ≤ depth d
get_depth k null e h = cc
get_depth k (boolean b) e h = cc
get_depth k (number n) e h = cc
get_depth k (string s) e h = cc
get_depth k (array ds) e h = cc
get_depth k (object ms) e h = let low = member_depth k ms e h in omega arith

object_depth : (o : Option Data) (e : Data) → option_and_then object_of o ≡ Some e → o ≡ Some e
object_depth None e h = cc
object_depth (Some null) e h = cc
object_depth (Some (boolean b)) e h = cc
object_depth (Some (number n)) e h = cc
object_depth (Some (string s)) e h = cc
object_depth (Some (array ds)) e h = cc
object_depth (Some (object ms)) e h = h

array_in : (o : Option Data) (ds : Items) → option_and_then as_array o ≡ Some ds → o ≡ Some (array ds)
array_in None ds h = cc
array_in (Some null) ds h = cc
array_in (Some (boolean b)) ds h = cc
array_in (Some (number n)) ds h = cc
array_in (Some (string s)) ds h = cc
array_in (Some (array es)) ds h = let same : es ≡ ds = cc in ap (λ x. Some (array x)) same
array_in (Some (object ms)) ds h = cc

has_object : (k : List ℕ) (d e : Data) → Has object_of k d e → suc (depth e) ≤ depth d
has_object k d e h = get_depth k d e (object_depth (get k d) e h)

has_array : (k : List ℕ) (d : Data) (ds : Items) → Has as_array k d ds → suc (suc (items_depth ds)) ≤ depth d
has_array k d ds h = get_depth k d (array ds) (array_in (get k d) ds h)

-- ---- what is written

texts_depth : (ts : List (List ℕ)) → depth (texts_form ts) ≤ 1
unfolding texts_form
texts_depth ts = let low = go ts in omega arith
  where
    go : (us : List (List ℕ)) → items_depth (items_of (map (λ t. string t) us)) ≤ 0
    go [] = omega arith
    go (u ∷ us) = max-le (omega arith) (go us)

lines_depth : (s : List ℕ) → depth (lines_form s) ≤ 1
unfolding lines_form
lines_depth s = texts_depth (lines_of s)

stream_depth : (name text : List ℕ) → depth (stream_form name text) ≤ 2
unfolding stream_form
stream_depth name text = let low = lines_depth text in omega arith

error_depth : (ename evalue : List ℕ) (traceback : List (List ℕ)) → depth (error_form ename evalue traceback) ≤ 2
unfolding error_form
error_depth ename evalue traceback = let low = texts_depth traceback in omega arith

-- outputs that nest at most so deep
abbrev AreWithin : ℕ → List Output → Type 0
AreWithin n [] = Unit {0}
AreWithin n (o ∷ os) = (depth (output_form o) ≤ n) × AreWithin n os

stream_within : (n : ℕ) (name text : List ℕ) → 2 ≤ n → depth (output_form (output.Stream name text)) ≤ n
unfolding output_form
stream_within n name text h = let low = stream_depth name text in omega arith

join_onto_within : (n : ℕ) (o : Output) (os : List Output) → 2 ≤ n → depth (output_form o) ≤ n → AreWithin n os → AreWithin n (join_onto o os)
join_onto_within n (output.Stream a s) [] h low rest = (low, tt)
join_onto_within n (output.Stream a s) (output.Stream b t ∷ os) h low rest = go (bytes_eq a b)
  where
    go : (same : Bool) → AreWithin n (cond same (output.Stream a (s ++ t) ∷ os) (output.Stream a s ∷ output.Stream b t ∷ os))
    go true = (stream_within n a (s ++ t) h, rest.1)
    go false = (low, rest)
join_onto_within n (output.Stream a s) (output.Error e v t ∷ os) h low rest = (low, rest)
join_onto_within n (output.Stream a s) (output.Kept d ∷ os) h low rest = (low, rest)
join_onto_within n (output.Error e v t) os h low rest = (low, rest)
join_onto_within n (output.Kept d) os h low rest = (low, rest)

joined_within : (n : ℕ) (os : List Output) → 2 ≤ n → AreWithin n os → AreWithin n (joined os)
unfolding joined
joined_within n [] h low = tt
joined_within n (o ∷ os) h low = join_onto_within n o (joined os) h low.0 (joined_within n os h low.1)

forms_depth : (n : ℕ) (os : List Output) → AreWithin n os → items_depth (items_of (map output_form os)) ≤ n
forms_depth n [] low = omega arith
forms_depth n (o ∷ os) low = max-le low.0 (forms_depth n os low.1)

outputs_depth : (n : ℕ) (os : List Output) → 2 ≤ n → AreWithin n os → depth (outputs_form os) ≤ suc n
unfolding outputs_form
outputs_depth n os h low = let most = forms_depth n (joined os) (joined_within n os h low) in omega arith

output_within : (n : ℕ) (d : Data) (o : Output) → 2 ≤ n → depth d ≤ n → IsOutputOf d o → depth (output_form o) ≤ n
unfolding output_form
output_within n d (output.Stream name text) h low is = let most = stream_depth name text in omega arith
output_within n d (output.Error ename evalue traceback) h low is = let most = error_depth ename evalue traceback in omega arith
output_within n d (output.Kept e) h low is = subst (λ x. depth x ≤ n) (sym is.0) low

outputs_within : (n : ℕ) (ds : Items) (os : List Output) → 2 ≤ n → items_depth ds ≤ n → Members IsOutputOf ds os → AreWithin n os
outputs_within n no_items [] h low are = tt
outputs_within n no_items (o ∷ os) h low are = absurd are
outputs_within n (item d ds) [] h low are = absurd are
outputs_within n (item d ds) (o ∷ os) h low are = (output_within n d o h (omega arith) are.0, outputs_within n ds os h (omega arith) are.1)

-- ---- cells

count_depth : (c : Option ℤ) → depth (count_form c) ≤ 0
unfolding count_form
count_depth None = omega arith
count_depth (Some z) = omega arith

code_depth : (n : ℕ) (id : List ℕ) (metadata : Data) (source : List ℕ) (e : Execution) → suc (depth metadata) ≤ n → depth (outputs_form e.outputs) + 1 ≤ n → 2 ≤ n → depth (code_form id metadata source e) ≤ n
unfolding code_form
code_depth n id metadata source e m o h = let c = count_depth e.execution_count in let l = lines_depth source in omega arith

text_depth : (n : ℕ) (kind id : List ℕ) (metadata : Data) (source : List ℕ) (a : Option Data) (d : Data) → HasAttachments d a → depth d ≤ n → suc (depth metadata) ≤ n → 2 ≤ n → depth (text_form kind id metadata source a) ≤ n
unfolding text_form
text_depth n kind id metadata source None d has low m h = let l = lines_depth source in omega arith
text_depth n kind id metadata source (Some a) d has low m h = let l = lines_depth source in let k = has_object (codes "attachments") d a has in omega arith

content_depth : (n : ℕ) (id : List ℕ) (metadata : Data) (source : List ℕ) (c : Content) (d : Data) → IsContentOf d c → depth d ≤ n → suc (depth metadata) ≤ n → 4 ≤ n → depth (content_form id metadata source c) ≤ n
content_depth (suc (suc n)) id metadata source (content.Code e) d is low m h =
    let deep = has_array (codes "outputs") d is.outputs.items is.outputs.has_items in
    let most = outputs_depth n e.outputs (omega arith) (outputs_within n is.outputs.items e.outputs (omega arith) (omega arith) is.outputs.members) in
    code_depth (suc (suc n)) id metadata source e m (omega arith) (omega arith)
content_depth n id metadata source (content.Code e) d is low m h = absurd (omega arith)
content_depth n id metadata source (content.Markdown a) d is low m h = text_depth n (codes "markdown") id metadata source a d is.1 low m (omega arith)
content_depth n id metadata source (content.Raw a) d is low m h = text_depth n (codes "raw") id metadata source a d is.1 low m (omega arith)

cell_depth : (n : ℕ) (c : Cell) (d : Data) → IsCellOf d c → depth d ≤ n → 4 ≤ n → depth (cell_form c) ≤ n
unfolding cell_form
cell_depth n c d is low h = let m = has_object (codes "metadata") d c.metadata is.metadata in content_depth n c.id c.metadata c.source c.content d is.content low (omega arith) h

cells_depth : (n : ℕ) (ds : Items) (cs : List Cell) → Members IsCellOf ds cs → items_depth ds ≤ n → 4 ≤ n → items_depth (items_of (map cell_form cs)) ≤ n
cells_depth n no_items [] are low h = omega arith
cells_depth n no_items (c ∷ cs) are low h = absurd are
cells_depth n (item d ds) [] are low h = absurd are
cells_depth n (item d ds) (c ∷ cs) are low h = max-le (cell_depth n c d are.0 (omega arith) h) (cells_depth n ds cs are.1 (omega arith) h)

-- ---- the notebook

notebook_depth : (d : Data) (n : Notebook) → IsNotebook d n → depth d ≤ 127 → depth (notebook_form n) ≤ 127
unfolding notebook_form cells_form
notebook_depth d n h deep =
    let m = has_object (codes "metadata") d n.metadata h.metadata in
    let all = has_array (codes "cells") d h.items h.has_items in
    let cells = cells_depth 125 h.items n.cells h.cells (omega arith) (omega arith) in
    omega arith

abbrev pub IsShallow : Notebook → Type 0
IsShallow n = depth (notebook_form n) ≤ max_depth

pub shallow_if_found : (r : Result Notebook NbBad) (text : List ℕ) → IfOk r (IsNotebookText text) → IfOk r IsShallow
shallow_if_found (Ok n) text h = notebook_depth h.value n h.notebook (depth-read text h.value h.reads)
shallow_if_found (Err e) text h = tt

pub value_shallow_if_found : (r : Result Notebook NbBad) (d : Data) → IfOk r (IsNotebook d) → depth d ≤ max_depth → IfOk r IsShallow
value_shallow_if_found (Ok n) d h low = notebook_depth d n h low
value_shallow_if_found (Err e) d h low = tt
