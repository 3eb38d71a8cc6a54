-- A notebook that was read has its fields, and a text that has a notebook's fields is read.
use Rattle.std.proofs.Common.{◌≡◌, ◌⊎◌, inl, inr, ◌<◌, ℕ, ℤ, pos, negsuc, ◌==◌, nat_lt, List, [], ◌∷◌, Bool, true, false, cond, codes, Option, Some, None, option_and_then, option_map, Result, Ok, Err, IfOk, refl, sym, ap, ap₂, ◌∙◌, subst}
use Rattle.std.proofs.lemmas.Bool.{eqb-true, ltb-true, lt-ltb, or_cases}
use Rattle.std.proofs.lemmas.Str.{IsUtf8-from_is_utf8, is_utf8-from_IsUtf8}
use Rattle.std.specs.Cmp.{signed_Decides}
use Rattle.std.specs.Ordering.{int_eq}
use Rattle.std.specs.Result.{result_ok}
use Rattle.std.specs.List.{list_all}
use Rattle.std.specs.Str.{bytes_eq, IsUtf8, is_utf8}
use Rattle.serde_json.specs.Data.{Data, Items, no_items, item}
use Rattle.serde_json.specs.Find.{get, as_str, as_array}
use Rattle.serde_json.specs.Read.{read}
use Rattle.json_form.specs.declared.fault.Fault.{Fault}
use Rattle.json_form.specs.declared.fault.Fault.TheVariants as form
use Rattle.json_form.specs.Forms.{◌>>=◌, Has, of_kind, needed, optional, each, whole_of, object_of, joined_of, joined_at, text_at, object_at, text_has_float, whole_json, if_whole}
use Rattle.json_form.proofs.Binds.{bind_ok, ok_same, needed_found, needed_only}
use Rattle.json_form.proofs.Fields.{text_at-found, text_at-only, object_at-found, object_at-only}
use Rattle.nb_doc.specs.declared.fault.NbFault.{NbFault}
use Rattle.nb_doc.specs.declared.fault.NbFault.TheVariants.{OtherVersion, BadId, RepeatedId}
use Rattle.nb_doc.specs.declared.fault.NbBad.{NbBad}
use Rattle.nb_doc.specs.declared.draft.Age.{Age}
use Rattle.nb_doc.specs.declared.draft.Age.TheVariants.{Current, Older}
use Rattle.nb_doc.specs.declared.draft.Draft.{Draft}
use Rattle.nb_doc.specs.declared.draft.Drafts.{Drafts}
use Rattle.nb_doc.specs.declared.notebook.Notebook.{Notebook}
use Rattle.nb_doc.specs.declared.notebook.Cell.{Cell}
use Rattle.nb_doc.specs.declared.notebook.Content.{Content}
use Rattle.nb_doc.specs.declared.notebook.Content.TheVariants as content
use Rattle.nb_doc.specs.declared.notebook.Execution.{Execution}
use Rattle.nb_doc.specs.declared.notebook.Output.{Output}
use Rattle.nb_doc.specs.declared.notebook.Output.TheVariants as output
use Rattle.nb_doc.specs.Steps.{pass, Answers}
use Rattle.nb_doc.specs.Steps as nb
use Rattle.nb_doc.specs.Fields.{texts_at, stream_of, error_of, is_kept, output_named, output_of, outputs_at, count_of, count_at, execution_of, some_object, attachments_at, content_named, some_text, id_at, draft_of, cells_at, drafts_of}
use Rattle.nb_doc.specs.Ids.{is_allowed, are_distinct, with_id, standing, cell_with, id_in, taken_after, raised, raise}
use Rattle.nb_doc.specs.Reading.{number_at, age_by_minor, age_by, minor_key, age_of, ids_of, notebook_of, json_at, notebook_at}
use Rattle.nb_doc.specs.Documents.{IsKept}
use Rattle.nb_doc.specs.TextForms.{Members, HasList, joined_text, IsText, IsStream, IsError, IsOutputOf, IsCode, HasAttachments, IsContentOf, IsCellOf, id_among, ids_in, AreIds, HasVersion, IsNotebook, IsNotebookText}
use Rattle.nb_doc.proofs.Among.{same_if}

-- ---- lists

each_found : {A : Type 0} (form : Data → Result A Fault) (P : Data → A → Type 0) → ((d : Data) (x : A) → form d ≡ Ok x → P d x) → (ds : Items) (xs : List A) → each form ds ≡ Ok xs → Members P ds xs
each_found {A} form P h no_items xs e = subst (Members P no_items) (ok_same [] xs e) tt
each_found {A} form P h (item d ds) xs e =
    let a = bind_ok (form d) _ xs e in
    let b = bind_ok (each form ds) _ xs a.2 in
    subst (Members P (item d ds)) (ok_same (a.0 ∷ b.0) xs b.2) (h d a.0 a.1, each_found form P h ds b.0 b.1)

each_only : {A : Type 0} (form : Data → Result A Fault) (P : Data → A → Type 0) → ((d : Data) (x : A) → P d x → form d ≡ Ok x) → (ds : Items) (xs : List A) → Members P ds xs → each form ds ≡ Ok xs
each_only form P h no_items [] m = refl
each_only form P h no_items (x ∷ xs) m = absurd m
each_only form P h (item d ds) [] m = absurd m
each_only form P h (item d ds) (x ∷ xs) m = rw (h d x m.0, each_only form P h ds xs m.1) refl

list_found : {A : Type 0} (form : Data → Result A Fault) (P : Data → A → Type 0) → ((d : Data) (x : A) → form d ≡ Ok x → P d x) → (k : List ℕ) (d : Data) (xs : List A) → (needed as_array (get k d) >>= each form) ≡ Ok xs → HasList P k d xs
list_found form P h k d xs e =
    let a = bind_ok (needed as_array (get k d)) _ xs e in
    record { items = a.0; has_items = needed_found as_array (get k d) a.0 a.1; members = each_found form P h a.0 xs a.2 }

list_only : {A : Type 0} (form : Data → Result A Fault) (P : Data → A → Type 0) → ((d : Data) (x : A) → P d x → form d ≡ Ok x) → (k : List ℕ) (d : Data) (xs : List A) → HasList P k d xs → (needed as_array (get k d) >>= each form) ≡ Ok xs
list_only form P h k d xs l = rw (needed_only as_array (get k d) l.items l.has_items) (each_only form P h l.items xs l.members)

-- ---- texts

kind_found : {A : Type 0} (o : Option A) (x : A) → of_kind o ≡ Ok x → o ≡ Some x
kind_found (Some y) x e = cc
kind_found None x e = cc

kind_only : {A : Type 0} (o : Option A) (x : A) → o ≡ Some x → of_kind o ≡ Ok x
kind_only o x e = ap of_kind e

result_found : (r : Result (List ℕ) Fault) (s : List ℕ) → result_ok r ≡ Some s → r ≡ Ok s
result_found (Ok x) s e = cc
result_found (Err f) s e = cc

joined_field_found : (o : Option Data) (s : List ℕ) → (needed (λ e. Some e) o >>= joined_of) ≡ Ok s → option_and_then joined_text o ≡ Some s
joined_field_found None s e = cc
joined_field_found (Some d) s e = ap result_ok e

joined_field_only : (o : Option Data) (s : List ℕ) → option_and_then joined_text o ≡ Some s → (needed (λ e. Some e) o >>= joined_of) ≡ Ok s
joined_field_only None s e = cc
joined_field_only (Some d) s e = result_found (joined_of d) s e

joined_found : (k : List ℕ) (d : Data) (s : List ℕ) → joined_at k d ≡ Ok s → Has joined_text k d s
unfolding joined_at
joined_found k d s e = joined_field_found (get k d) s e

joined_only : (k : List ℕ) (d : Data) (s : List ℕ) → Has joined_text k d s → joined_at k d ≡ Ok s
unfolding joined_at
joined_only k d s h = joined_field_only (get k d) s h

texts_found : (k : List ℕ) (d : Data) (ts : List (List ℕ)) → texts_at k d ≡ Ok ts → HasList IsText k d ts
unfolding texts_at
texts_found k d ts e = list_found (λ x. of_kind (as_str x)) IsText (λ x s h. kind_found (as_str x) s h) k d ts e

texts_only : (k : List ℕ) (d : Data) (ts : List (List ℕ)) → HasList IsText k d ts → texts_at k d ≡ Ok ts
unfolding texts_at
texts_only k d ts h = list_only (λ x. of_kind (as_str x)) IsText (λ x s g. kind_only (as_str x) s g) k d ts h

-- ---- outputs

abbrev OutputKind : List ℕ → Data → Type 0
OutputKind kind d = Has as_str (codes "output_type") d kind

stream_found : (d : Data) (o : Output) → OutputKind (codes "stream") d → stream_of d ≡ Ok o → IsOutputOf d o
unfolding stream_of
stream_found d o k e =
    let a = bind_ok (text_at (codes "name") d) _ o e in
    let b = bind_ok (joined_at (codes "text") d) _ o a.2 in
    subst (IsOutputOf d) (ok_same (output.Stream a.0 b.0) o b.2) (record { kind = k; name_is = text_at-found (codes "name") d a.0 a.1; text_is = joined_found (codes "text") d b.0 b.1 })

error_found : (d : Data) (o : Output) → OutputKind (codes "error") d → error_of d ≡ Ok o → IsOutputOf d o
unfolding error_of
error_found d o k e =
    let a = bind_ok (text_at (codes "ename") d) _ o e in
    let b = bind_ok (text_at (codes "evalue") d) _ o a.2 in
    let t = bind_ok (texts_at (codes "traceback") d) _ o b.2 in
    subst (IsOutputOf d) (ok_same (output.Error a.0 b.0 t.0) o t.2) (record {
      kind = k;
      ename_is = text_at-found (codes "ename") d a.0 a.1;
      evalue_is = text_at-found (codes "evalue") d b.0 b.1;
      traceback_is = texts_found (codes "traceback") d t.0 t.1;
    })

abbrev Gets : {A : Type 0} → Result A Fault → A → Type 0
Gets {A} r x = ◌≡◌ {A = Result A Fault} r (Ok x)

either : {A : Type 0} (b : Bool) (x y z : Result A Fault) → cond b x y ≡ z → ((b ≡ true) × (x ≡ z)) ⊎ (y ≡ z)
either true x y z e = inl (refl, e)
either false x y z e = inr e

abbrev if_kept : List ℕ → Data → Result Output Fault
if_kept kind d = cond (is_kept kind) (Ok (output.Kept d)) (Err form.WrongKind)

abbrev if_error : List ℕ → Data → Result Output Fault
if_error kind d = cond (bytes_eq kind (codes "error")) (error_of d) (if_kept kind d)

named_found : (kind : List ℕ) (d : Data) (o : Output) → OutputKind kind d → output_named kind d ≡ Ok o → IsOutputOf d o
unfolding output_named
named_found kind d o k e = first (either (bytes_eq kind (codes "stream")) (stream_of d) (if_error kind d) (Ok o) e)
  where
    at : (name : List ℕ) → bytes_eq kind name ≡ true → OutputKind name d
    at name h = subst (λ n. OutputKind n d) (same_if kind name h) k

    third : ((is_kept kind ≡ true) × Gets (Ok (output.Kept d)) o) ⊎ Gets (Err form.WrongKind) o → IsOutputOf d o
    third (inl h) = subst (IsOutputOf d) (ok_same (output.Kept d) o h.1) (refl, record { kind = kind; has_kind = k; kept = h.0 })
    third (inr h) = cc

    second : ((bytes_eq kind (codes "error") ≡ true) × Gets (error_of d) o) ⊎ Gets (if_kept kind d) o → IsOutputOf d o
    second (inl h) = error_found d o (at (codes "error") h.0) h.1
    second (inr h) = third (either (is_kept kind) (Ok (output.Kept d)) (Err form.WrongKind) (Ok o) h)

    first : ((bytes_eq kind (codes "stream") ≡ true) × Gets (stream_of d) o) ⊎ Gets (if_error kind d) o → IsOutputOf d o
    first (inl h) = stream_found d o (at (codes "stream") h.0) h.1
    first (inr h) = second (either (bytes_eq kind (codes "error")) (error_of d) (if_kept kind d) (Ok o) h)

output_found : (d : Data) (o : Output) → output_of d ≡ Ok o → IsOutputOf d o
unfolding output_of
output_found d o e =
    let a = bind_ok (text_at (codes "output_type") d) _ o e in
    named_found a.0 d o (text_at-found (codes "output_type") d a.0 a.1) a.2

kept_only : (kind : List ℕ) (d : Data) → (bytes_eq kind (codes "display_data") ≡ true) ⊎ (bytes_eq kind (codes "execute_result") ≡ true) → output_named kind d ≡ Ok (output.Kept d)
unfolding output_named
kept_only kind d (inl e) = rw (same_if kind (codes "display_data") e) refl
kept_only kind d (inr e) = rw (same_if kind (codes "execute_result") e) refl

stream_only : (d : Data) (name text : List ℕ) → IsStream d name text → output_of d ≡ Ok (output.Stream name text)
unfolding output_of output_named stream_of
stream_only d name text h = rw (text_at-only (codes "output_type") d (codes "stream") h.kind, text_at-only (codes "name") d name h.name_is, joined_only (codes "text") d text h.text_is) refl

error_only : (d : Data) (e v : List ℕ) (t : List (List ℕ)) → IsError d e v t → output_of d ≡ Ok (output.Error e v t)
unfolding output_of output_named error_of
error_only d e v t h =
    rw (text_at-only (codes "output_type") d (codes "error") h.kind, text_at-only (codes "ename") d e h.ename_is, text_at-only (codes "evalue") d v h.evalue_is, texts_only (codes "traceback") d t h.traceback_is) refl

shown_only : (d : Data) → IsKept d → output_of d ≡ Ok (output.Kept d)
unfolding output_of
shown_only d k = rw (text_at-only (codes "output_type") d k.kind k.has_kind) (kept_only k.kind d (or_cases (bytes_eq k.kind (codes "display_data")) (bytes_eq k.kind (codes "execute_result")) k.kept))

output_only : (d : Data) (o : Output) → IsOutputOf d o → output_of d ≡ Ok o
output_only d (output.Stream name text) h = stream_only d name text h
output_only d (output.Error e v t) h = error_only d e v t h
output_only d (output.Kept x) h = shown_only d h.1 ∙ ap (λ y. Ok (output.Kept y)) (sym h.0)

outputs_found : (d : Data) (os : List Output) → outputs_at d ≡ Ok os → HasList IsOutputOf (codes "outputs") d os
unfolding outputs_at
outputs_found d os e = list_found output_of IsOutputOf output_found (codes "outputs") d os e

outputs_only : (d : Data) (os : List Output) → HasList IsOutputOf (codes "outputs") d os → outputs_at d ≡ Ok os
unfolding outputs_at
outputs_only d os h = list_only output_of IsOutputOf output_only (codes "outputs") d os h

-- ---- cells

abbrev CellKind : List ℕ → Data → Type 0
CellKind kind d = Has as_str (codes "cell_type") d kind

count_found : (d : Data) (c : Option ℤ) → count_at d ≡ Ok c → Has count_of (codes "execution_count") d c
unfolding count_at
count_found d c e = needed_found count_of (get (codes "execution_count") d) c e

count_only : (d : Data) (c : Option ℤ) → Has count_of (codes "execution_count") d c → count_at d ≡ Ok c
unfolding count_at
count_only d c h = needed_only count_of (get (codes "execution_count") d) c h

code_found : (d : Data) (x : Execution) → CellKind (codes "code") d → execution_of d ≡ Ok x → IsCode d x
unfolding execution_of
code_found d x k e =
    let a = bind_ok (count_at d) _ x e in
    let b = bind_ok (outputs_at d) _ x a.2 in
    let made : Execution = record { execution_count = a.0; outputs = b.0 } in
    subst (IsCode d) (ok_same made x b.2) (record { kind = k; count = count_found d a.0 a.1; outputs = outputs_found d b.0 b.1 })

code_only : (d : Data) (x : Execution) → IsCode d x → execution_of d ≡ Ok x
unfolding execution_of
code_only d x h = rw (count_only d x.execution_count h.count, outputs_only d x.outputs h.outputs) refl

never_none : {A : Type 0} (p : Option A) → of_kind (option_map (λ o. Some o) p) ≡ Ok None → ⊥
never_none None e = cc
never_none (Some x) e = cc

some_is : {A : Type 0} (p : Option A) (x : A) → of_kind (option_map (λ o. Some o) p) ≡ Ok (Some x) → p ≡ Some x
some_is None x e = cc
some_is (Some y) x e = cc

abbrev Attached : Option Data → Option Data → Type 0
Attached field None = field ≡ None
Attached field (Some a) = option_and_then object_of field ≡ Some a

attached_found : (field a : Option Data) → optional None some_object field ≡ Ok a → Attached field a
attached_found None None e = refl
attached_found None (Some x) e = cc
attached_found (Some d) None e = absurd (never_none (object_of d) e)
attached_found (Some d) (Some x) e = some_is (object_of d) x e

attached_only : (field a : Option Data) → Attached field a → optional None some_object field ≡ Ok a
attached_only None None h = refl
attached_only None (Some x) h = cc
attached_only (Some d) None h = cc
attached_only (Some d) (Some x) h = ap (λ p. of_kind (option_map (λ o. Some o) p)) h

attachments_is : (d : Data) (a : Option Data) → Attached (get (codes "attachments") d) a → HasAttachments d a
attachments_is d None h = h
attachments_is d (Some x) h = h

is_attached : (d : Data) (a : Option Data) → HasAttachments d a → Attached (get (codes "attachments") d) a
is_attached d None h = h
is_attached d (Some x) h = h

attachments_found : (d : Data) (a : Option Data) → attachments_at d ≡ Ok a → HasAttachments d a
unfolding attachments_at
attachments_found d a e = attachments_is d a (attached_found (get (codes "attachments") d) a e)

attachments_only : (d : Data) (a : Option Data) → HasAttachments d a → attachments_at d ≡ Ok a
unfolding attachments_at
attachments_only d a h = attached_only (get (codes "attachments") d) a (is_attached d a h)

abbrev as_code : Data → Result Content Fault
as_code d = execution_of d >>= λ a. Ok (content.Code a)

abbrev as_markdown : Data → Result Content Fault
as_markdown d = attachments_at d >>= λ a. Ok (content.Markdown a)

abbrev as_raw : Data → Result Content Fault
as_raw d = attachments_at d >>= λ a. Ok (content.Raw a)

abbrev if_raw : List ℕ → Data → Result Content Fault
if_raw kind d = cond (bytes_eq kind (codes "raw")) (as_raw d) (Err form.WrongKind)

abbrev if_markdown : List ℕ → Data → Result Content Fault
if_markdown kind d = cond (bytes_eq kind (codes "markdown")) (as_markdown d) (if_raw kind d)

content_found : (kind : List ℕ) (d : Data) (x : Content) → CellKind kind d → content_named kind d ≡ Ok x → IsContentOf d x
unfolding content_named
content_found kind d x k e = first (either (bytes_eq kind (codes "code")) (as_code d) (if_markdown kind d) (Ok x) e)
  where
    at : (name : List ℕ) → bytes_eq kind name ≡ true → CellKind name d
    at name h = subst (λ n. CellKind n d) (same_if kind name h) k

    raw : (a : Option Data) × Gets (attachments_at d) a × Gets (Ok (content.Raw a)) x → bytes_eq kind (codes "raw") ≡ true → IsContentOf d x
    raw a h = subst (IsContentOf d) (ok_same (content.Raw a.0) x a.2) (at (codes "raw") h, attachments_found d a.0 a.1)

    third : ((bytes_eq kind (codes "raw") ≡ true) × Gets (as_raw d) x) ⊎ Gets (Err form.WrongKind) x → IsContentOf d x
    third (inl h) = raw (bind_ok (attachments_at d) _ x h.1) h.0
    third (inr h) = cc

    markdown : (a : Option Data) × Gets (attachments_at d) a × Gets (Ok (content.Markdown a)) x → bytes_eq kind (codes "markdown") ≡ true → IsContentOf d x
    markdown a h = subst (IsContentOf d) (ok_same (content.Markdown a.0) x a.2) (at (codes "markdown") h, attachments_found d a.0 a.1)

    second : ((bytes_eq kind (codes "markdown") ≡ true) × Gets (as_markdown d) x) ⊎ Gets (if_raw kind d) x → IsContentOf d x
    second (inl h) = markdown (bind_ok (attachments_at d) _ x h.1) h.0
    second (inr h) = third (either (bytes_eq kind (codes "raw")) (as_raw d) (Err form.WrongKind) (Ok x) h)

    code : (a : Execution) × Gets (execution_of d) a × Gets (Ok (content.Code a)) x → bytes_eq kind (codes "code") ≡ true → IsContentOf d x
    code a h = subst (IsContentOf d) (ok_same (content.Code a.0) x a.2) (code_found d a.0 (at (codes "code") h) a.1)

    first : ((bytes_eq kind (codes "code") ≡ true) × Gets (as_code d) x) ⊎ Gets (if_markdown kind d) x → IsContentOf d x
    first (inl h) = code (bind_ok (execution_of d) _ x h.1) h.0
    first (inr h) = second (either (bytes_eq kind (codes "markdown")) (as_markdown d) (if_raw kind d) (Ok x) h)

abbrev kind_of : Content → List ℕ
kind_of (content.Code e) = codes "code"
kind_of (content.Markdown a) = codes "markdown"
kind_of (content.Raw a) = codes "raw"

kind_is : (d : Data) (x : Content) → IsContentOf d x → CellKind (kind_of x) d
kind_is d (content.Code e) h = h.kind
kind_is d (content.Markdown a) h = h.0
kind_is d (content.Raw a) h = h.0

content_only : (d : Data) (x : Content) → IsContentOf d x → content_named (kind_of x) d ≡ Ok x
unfolding content_named
content_only d (content.Code e) h = rw (code_only d e h) refl
content_only d (content.Markdown a) h = rw (attachments_only d a h.1) refl
content_only d (content.Raw a) h = rw (attachments_only d a h.1) refl

abbrev IdAt : Age → Option Data → Option (List ℕ) → Type 0
IdAt age field (Some id) = option_and_then as_str field ≡ Some id
IdAt age field None = (age ≡ Older) × (field ≡ None)

current_found : (field : Option Data) (o : Option (List ℕ)) → needed some_text field ≡ Ok o → IdAt Current field o
current_found None o e = cc
current_found (Some d) None e = absurd (never_none (as_str d) e)
current_found (Some d) (Some id) e = some_is (as_str d) id e

older_found : (field : Option Data) (o : Option (List ℕ)) → optional None some_text field ≡ Ok o → IdAt Older field o
older_found None None e = (refl, refl)
older_found None (Some id) e = cc
older_found (Some d) None e = absurd (never_none (as_str d) e)
older_found (Some d) (Some id) e = some_is (as_str d) id e

id_found : (age : Age) (d : Data) (o : Option (List ℕ)) → id_at age d ≡ Ok o → IdAt age (get (codes "id") d) o
unfolding id_at
id_found Current d o e = current_found (get (codes "id") d) o e
id_found Older d o e = older_found (get (codes "id") d) o e

current_only : (field : Option Data) (o : Option (List ℕ)) → IdAt Current field o → needed some_text field ≡ Ok o
current_only None (Some id) h = cc
current_only (Some d) (Some id) h = ap (λ p. of_kind (option_map (λ o. Some o) p)) h
current_only field None h = let apart : Current ≡ Older = h.0 in cc

older_only : (field : Option Data) (o : Option (List ℕ)) → IdAt Older field o → optional None some_text field ≡ Ok o
older_only None None h = refl
older_only None (Some id) h = cc
older_only (Some d) None h = let apart : Some d ≡ None = h.1 in cc
older_only (Some d) (Some id) h = ap (λ p. of_kind (option_map (λ o. Some o) p)) h

id_only : (age : Age) (d : Data) (o : Option (List ℕ)) → IdAt age (get (codes "id") d) o → id_at age d ≡ Ok o
unfolding id_at
id_only Current d o h = current_only (get (codes "id") d) o h
id_only Older d o h = older_only (get (codes "id") d) o h

-- ---- drafts

record IsDraftOf (age : Age) (d : Data) (t : Draft) : Type 0 where
  id_is : IdAt age (get (codes "id") d) t.id
  metadata : Has object_of (codes "metadata") d t.metadata
  source : Has joined_text (codes "source") d t.source
  content : IsContentOf d t.content

draft_found : (age : Age) (d : Data) (t : Draft) → draft_of age d ≡ Ok t → IsDraftOf age d t
unfolding draft_of
draft_found age d t e =
    let k = bind_ok (text_at (codes "cell_type") d) _ t e in
    let i = bind_ok (id_at age d) _ t k.2 in
    let m = bind_ok (object_at (codes "metadata") d) _ t i.2 in
    let s = bind_ok (joined_at (codes "source") d) _ t m.2 in
    let c = bind_ok (content_named k.0 d) _ t s.2 in
    let made : Draft = record { id = i.0; metadata = m.0; source = s.0; content = c.0 } in
    subst (IsDraftOf age d) (ok_same made t c.2) (record {
      id_is = id_found age d i.0 i.1;
      metadata = object_at-found (codes "metadata") d m.0 m.1;
      source = joined_found (codes "source") d s.0 s.1;
      content = content_found k.0 d c.0 (text_at-found (codes "cell_type") d k.0 k.1) c.1;
    })

draft_only : (age : Age) (d : Data) (t : Draft) → IsDraftOf age d t → draft_of age d ≡ Ok t
unfolding draft_of
draft_only age d t h =
    let k = text_at-only (codes "cell_type") d (kind_of t.content) (kind_is d t.content h.content) in
    let i = id_only age d t.id h.id_is in
    let m = object_at-only (codes "metadata") d t.metadata h.metadata in
    let s = joined_only (codes "source") d t.source h.source in
    let c = content_only d t.content h.content in
    rw (k, i, m, s, c) refl

-- ---- cells with their ids

abbrev NextIds : Age → List (List ℕ) → Data → Items → Cell → List Cell → Type 0
NextIds age taken d ds c cs = AreIds age taken (item d ds) (c ∷ cs)

next_ids : (age : Age) (taken : List (List ℕ)) (d : Data) (ds : Items) (t : Draft) (cs : List (List ℕ) → List Cell) (o : Option (List ℕ)) → IdAt age (get (codes "id") d) o → AreIds age (taken_after taken o) ds (cs (taken_after taken o))
    → NextIds age taken d ds (cell_with t (id_in taken o)) (cs (taken_after taken o))
next_ids age taken d ds t cs (Some id) h rest = inl (h, rest)
next_ids age taken d ds t cs None h rest = inr (h.0, h.1, refl, rest)

cells_found : (age : Age) (taken : List (List ℕ)) (ds : Items) (ts : List Draft) → Members (IsDraftOf age) ds ts → Members IsCellOf ds (raised taken ts) × AreIds age taken ds (raised taken ts)
cells_found age taken no_items [] m = (tt, tt)
cells_found age taken no_items (t ∷ ts) m = absurd m
cells_found age taken (item d ds) [] m = absurd m
cells_found age taken (item d ds) (t ∷ ts) m =
    let rest = cells_found age (taken_after taken t.id) ds ts m.1 in
    ((record { metadata = m.0.metadata; source = m.0.source; content = m.0.content }, rest.0), next_ids age taken d ds t (λ now. raised now ts) t.id m.0.id_is rest.1)

same_id : (age : Age) (field : Option Data) (o : Option (List ℕ)) (xs ys : List (List ℕ)) → IdAt age field o → xs ≡ ys → id_among (option_and_then as_str field) xs ≡ with_id o ys
same_id age field (Some id) xs ys h e = ap₂ id_among h e
same_id age field None xs ys h e = ap₂ (λ f r. id_among (option_and_then as_str f) r) h.1 e

standing_found : (age : Age) (ds : Items) (ts : List Draft) → Members (IsDraftOf age) ds ts → ids_in ds ≡ standing ts
standing_found age no_items [] m = refl
standing_found age no_items (t ∷ ts) m = absurd m
standing_found age (item d ds) [] m = absurd m
standing_found age (item d ds) (t ∷ ts) m = same_id age (get (codes "id") d) t.id (ids_in ds) (standing ts) m.0.id_is (standing_found age ds ts m.1)

abbrev Drafted : Age → List (List ℕ) → Items → List Cell → Type 0
Drafted age taken ds cs = (ts : List Draft) × Members (IsDraftOf age) ds ts × (raised taken ts ≡ cs)

drafted : (age : Age) (taken : List (List ℕ)) (ds : Items) (cs : List Cell) → Members IsCellOf ds cs → AreIds age taken ds cs → Drafted age taken ds cs
drafted age taken no_items [] m a = ([], tt, refl)
drafted age taken no_items (c ∷ cs) m a = absurd m
drafted age taken (item d ds) [] m a = absurd m
drafted age taken (item d ds) (c ∷ cs) m (inl a) =
    let r = drafted age taken ds cs m.1 a.1 in
    let t : Draft = record { id = Some c.id; metadata = c.metadata; source = c.source; content = c.content } in
    (t ∷ r.0, (record { id_is = a.0; metadata = m.0.metadata; source = m.0.source; content = m.0.content }, r.1), ap (λ x. c ∷ x) r.2)
drafted age taken (item d ds) (c ∷ cs) m (inr a) =
    let r = drafted age (c.id ∷ taken) ds cs m.1 a.3 in
    let t : Draft = record { id = None; metadata = c.metadata; source = c.source; content = c.content } in (
      t ∷ r.0,
      (record { id_is = (a.0, a.1); metadata = m.0.metadata; source = m.0.source; content = m.0.content }, r.1),
      ap (λ i. cell_with t i ∷ raised (i ∷ taken) r.0) (sym a.2) ∙ ap (λ x. c ∷ x) r.2,
    )

-- ---- the version

abbrev Version : Age → Option ℤ → Type 0
Version Current b = b ≡ Some (pos 5)
Version Older b = (minor : ℕ) × (minor < 5) × (b ≡ Some (pos minor))

abbrev NbGets : {A : Type 0} → Result A NbFault → A → Type 0
NbGets {A} r x = ◌≡◌ {A = Result A NbFault} r (Ok x)

nb_either : {A : Type 0} (b : Bool) (x y z : Result A NbFault) → cond b x y ≡ z → ((b ≡ true) × (x ≡ z)) ⊎ (y ≡ z)
nb_either true x y z h = inl (refl, h)
nb_either false x y z h = inr h

nb_same : {A : Type 0} (x y : A) → ◌≡◌ {A = Result A NbFault} (Ok x) (Ok y) → x ≡ y
nb_same x y h = cc

minor_found : (n : ℤ) (age : Age) → age_by_minor n ≡ Ok age → Version age (Some n)
minor_found (negsuc k) age e = cc
minor_found (pos k) age e = first (nb_either (nat_lt k 5) (Ok Older) (cond (k == 5) (Ok Current) (Err OtherVersion)) (Ok age) e)
  where
    second : (((k == 5) ≡ true) × NbGets (Ok Current) age) ⊎ NbGets (Err OtherVersion) age → Version age (Some (pos k))
    second (inl h) = subst (λ a. Version a (Some (pos k))) (nb_same Current age h.1) (ap (λ j. Some (pos j)) (eqb-true k 5 h.0))
    second (inr h) = cc

    first : ((nat_lt k 5 ≡ true) × NbGets (Ok Older) age) ⊎ NbGets (cond (k == 5) (Ok Current) (Err OtherVersion)) age → Version age (Some (pos k))
    first (inl h) = subst (λ a. Version a (Some (pos k))) (nb_same Older age h.1) (k, ltb-true k 5 h.0, refl)
    first (inr h) = second (nb_either (k == 5) (Ok Current) (Err OtherVersion) (Ok age) h)

ages_found : (a b : Option ℤ) (age : Age) → age_by a b ≡ Ok age → (a ≡ Some (pos 4)) × Version age b
ages_found None b age e = cc
ages_found (Some m) None age e = cc
ages_found (Some m) (Some n) age e = go (nb_either (int_eq m (pos 4)) (age_by_minor n) (Err OtherVersion) (Ok age) e)
  where
    go : ((int_eq m (pos 4) ≡ true) × NbGets (age_by_minor n) age) ⊎ NbGets (Err OtherVersion) age → (Some m ≡ Some (pos 4)) × Version age (Some n)
    go (inl h) = (ap Some ((signed_Decides m (pos 4)).0 h.0), minor_found n age h.1)
    go (inr h) = cc

ages_only : (a b : Option ℤ) (age : Age) → a ≡ Some (pos 4) → Version age b → age_by a b ≡ Ok age
ages_only a b Current e v = rw (e, v) refl
ages_only a b Older e v = let small : nat_lt v.0 5 ≡ true = lt-ltb v.0 5 v.1 in rw (e, v.2, small) refl

version_is : (age : Age) (d : Data) → Version age (number_at minor_key d) → HasVersion age d
unfolding number_at
version_is Current d v = v
version_is Older d v = v

is_version : (age : Age) (d : Data) → HasVersion age d → Version age (number_at minor_key d)
unfolding number_at
is_version Current d v = v
is_version Older d v = v

age_found : (d : Data) (age : Age) → age_of d ≡ Ok age → Has whole_of (codes "nbformat") d (pos 4) × HasVersion age d
unfolding age_of number_at
age_found d age e = let r = ages_found (number_at (codes "nbformat") d) (number_at minor_key d) age e in (r.0, version_is age d r.1)

age_only : (d : Data) (age : Age) → Has whole_of (codes "nbformat") d (pos 4) → HasVersion age d → age_of d ≡ Ok age
unfolding age_of number_at
age_only d age h v = ages_only (number_at (codes "nbformat") d) (number_at minor_key d) age h (is_version age d v)

-- ---- the notebook

nb_bind : {A B : Type 0} (r : Result A NbFault) (f : A → Result B NbFault) (y : B) → nb.◌>>=◌ r f ≡ Ok y → (x : A) × (r ≡ Ok x) × (f x ≡ Ok y)
nb_bind (Ok x) f y e = (x, refl, e)
nb_bind (Err g) f y e = cc

passed : {A : Type 0} (r : Result A Fault) (x : A) → pass r ≡ Ok x → r ≡ Ok x
passed (Ok y) x e = cc
passed (Err f) x e = cc

abbrev if_distinct : List Draft → Result (Unit {0}) NbFault
if_distinct ts = cond (are_distinct (standing ts)) (Ok tt) (Err RepeatedId)

abbrev AreGood : List Draft → Type 0
AreGood ts = (list_all is_allowed (standing ts) ≡ true) × (are_distinct (standing ts) ≡ true)

ids_found : (ts : List Draft) → NbGets (ids_of ts) tt → AreGood ts
unfolding ids_of
ids_found ts e = go (nb_either (list_all is_allowed (standing ts)) (if_distinct ts) (Err BadId) (Ok tt) e)
  where
    more : (list_all is_allowed (standing ts) ≡ true) → ((are_distinct (standing ts) ≡ true) × NbGets {A = Unit {0}} (Ok tt) tt) ⊎ NbGets {A = Unit {0}} (Err RepeatedId) tt → AreGood ts
    more a (inl h) = (a, h.0)
    more a (inr h) = cc

    go : ((list_all is_allowed (standing ts) ≡ true) × NbGets {A = Unit {0}} (if_distinct ts) tt) ⊎ NbGets {A = Unit {0}} (Err BadId) tt → AreGood ts
    go (inl h) = more h.0 (nb_either (are_distinct (standing ts)) (Ok tt) (Err RepeatedId) (Ok tt) h.1)
    go (inr h) = cc

ids_only : (ts : List Draft) → list_all is_allowed (standing ts) ≡ true → are_distinct (standing ts) ≡ true → ids_of ts ≡ Ok tt
unfolding ids_of
ids_only ts a d = rw (a, d) refl

record AreDrafts (age : Age) (d : Data) (ts : Drafts) : Type 0 where
  items : Items
  has_items : Has as_array (codes "cells") d items
  members : Members (IsDraftOf age) items ts.cells
  metadata : Has object_of (codes "metadata") d ts.metadata

drafts_found : (age : Age) (d : Data) (ts : Drafts) → drafts_of age d ≡ Ok ts → AreDrafts age d ts
unfolding drafts_of cells_at
drafts_found age d ts e =
    let c = bind_ok (cells_at age d) _ ts e in
    let m = bind_ok (object_at (codes "metadata") d) _ ts c.2 in
    let made : Drafts = record { cells = c.0; metadata = m.0 } in
    let l = list_found (draft_of age) (IsDraftOf age) (draft_found age) (codes "cells") d c.0 c.1 in
    subst (AreDrafts age d) (ok_same made ts m.2) (record { items = l.items; has_items = l.has_items; members = l.members; metadata = object_at-found (codes "metadata") d m.0 m.1 })

drafts_only : (age : Age) (d : Data) (ts : Drafts) → AreDrafts age d ts → drafts_of age d ≡ Ok ts
unfolding drafts_of cells_at
drafts_only age d ts h =
    let l : HasList (IsDraftOf age) (codes "cells") d ts.cells = record { items = h.items; has_items = h.has_items; members = h.members } in
    let c = list_only (draft_of age) (IsDraftOf age) (draft_only age) (codes "cells") d ts.cells l in
    let m = object_at-only (codes "metadata") d ts.metadata h.metadata in
    rw (c, m) refl

pub notebook_found : (d : Data) (n : Notebook) → notebook_of d ≡ Ok n → IsNotebook d n
unfolding notebook_of raise
notebook_found d n e =
    let a = nb_bind (age_of d) _ n e in
    let t = nb_bind (pass (drafts_of a.0 d)) _ n a.2 in
    let i = nb_bind (ids_of t.0.cells) _ n t.2 in
    let v = age_found d a.0 a.1 in
    let ts = drafts_found a.0 d t.0 (passed (drafts_of a.0 d) t.0 t.1) in
    let same = standing_found a.0 ts.items t.0.cells ts.members in
    let cells = cells_found a.0 (standing t.0.cells) ts.items t.0.cells ts.members in
    let ids = ids_found t.0.cells i.1 in
    let made : Notebook = record { cells = raised (standing t.0.cells) t.0.cells; metadata = t.0.metadata } in
    subst (IsNotebook d) (nb_same made n i.2) (record {
      version = v.0;
      age = a.0;
      has_age = v.1;
      items = ts.items;
      has_items = ts.has_items;
      cells = cells.0;
      ids = subst (λ taken. AreIds a.0 taken ts.items (raised (standing t.0.cells) t.0.cells)) (sym same) cells.1;
      allowed = ap (list_all is_allowed) same ∙ ids.0;
      distinct = ap are_distinct same ∙ ids.1;
      metadata = ts.metadata;
    })

pub notebook_only : (d : Data) (n : Notebook) → IsNotebook d n → notebook_of d ≡ Ok n
unfolding notebook_of raise
notebook_only d n h =
    let r = drafted h.age (ids_in h.items) h.items n.cells h.cells h.ids in
    let same = standing_found h.age h.items r.0 r.1 in
    let ts : Drafts = record { cells = r.0; metadata = n.metadata } in
    let a = age_only d h.age h.version h.has_age in
    let t = drafts_only h.age d ts (record { items = h.items; has_items = h.has_items; members = r.1; metadata = h.metadata }) in
    let i = ids_only r.0 (ap (list_all is_allowed) (sym same) ∙ h.allowed) (ap are_distinct (sym same) ∙ h.distinct) in
    let cells : raised (standing r.0) r.0 ≡ n.cells = ap (λ taken. raised taken r.0) (sym same) ∙ r.2 in
    rw (a, t, i, cells) refl

-- ---- the text

whole_found : (float : Bool) (o : Option Data) (d : Data) → if_whole float o ≡ Ok d → (o ≡ Some d) × (float ≡ false)
whole_found float None d e = cc
whole_found true (Some x) d e = cc
whole_found false (Some x) d e = (ap Some (ok_same x d e), refl)

json_found : (text : List ℕ) (d : Data) → json_at text ≡ Ok d → IsUtf8 text × ((read text ≡ Some d) × (text_has_float text ≡ false))
unfolding json_at whole_json
json_found text d e = go (either (is_utf8 text) (if_whole (text_has_float text) (read text)) (Err form.NotJson) (Ok d) e)
  where
    go : ((is_utf8 text ≡ true) × Gets (if_whole (text_has_float text) (read text)) d) ⊎ Gets (Err form.NotJson) d → IsUtf8 text × ((read text ≡ Some d) × (text_has_float text ≡ false))
    go (inl h) = (IsUtf8-from_is_utf8 text h.0, whole_found (text_has_float text) (read text) d h.1)
    go (inr h) = cc

json_only : (text : List ℕ) (d : Data) → IsUtf8 text → read text ≡ Some d → text_has_float text ≡ false → json_at text ≡ Ok d
unfolding json_at whole_json
json_only text d u r w = let utf8 = is_utf8-from_IsUtf8 text u in rw (utf8, r, w) refl

text_found : (text : List ℕ) (n : Notebook) → notebook_at text ≡ Ok n → IsNotebookText text n
unfolding notebook_at
text_found text n e =
    let v = nb_bind (pass (json_at text)) _ n e in
    let j = json_found text v.0 (passed (json_at text) v.0 v.1) in
    record { utf8 = j.0; value = v.0; reads = j.1.0; whole = j.1.1; notebook = notebook_found v.0 n v.2 }

text_only : (text : List ℕ) (n : Notebook) → IsNotebookText text n → notebook_at text ≡ Ok n
unfolding notebook_at
text_only text n h = let j = json_only text h.value h.utf8 h.reads h.whole in let m = notebook_only h.value n h.notebook in rw (j, m) refl

pub found_if_exact : (r : Result Notebook NbBad) (text : List ℕ) → Answers r (notebook_at text) → IfOk r (IsNotebookText text)
found_if_exact (Ok n) text h = text_found text n h
found_if_exact (Err e) text h = tt

pub only_if_exact : (r : Result Notebook NbBad) (text : List ℕ) → Answers r (notebook_at text) → (n : Notebook) → IsNotebookText text n → Answers r (Ok n)
only_if_exact r text h n f = subst (Answers r) (text_only text n f) h

-- ---- the value

pub value_found_if_exact : (r : Result Notebook NbBad) (d : Data) → Answers r (notebook_of d) → IfOk r (IsNotebook d)
value_found_if_exact (Ok n) d h = notebook_found d n h
value_found_if_exact (Err e) d h = tt

pub value_only_if_exact : (r : Result Notebook NbBad) (d : Data) → Answers r (notebook_of d) → (n : Notebook) → IsNotebook d n → Answers r (Ok n)
value_only_if_exact r d h n f = subst (Answers r) (notebook_only d n f) h
