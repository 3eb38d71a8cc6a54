-- To be believed.
-- The fields of a notebook as they stand ("The Jupyter notebook format", nbformat 4.5): each cell, each output, and
-- where a field is missing or of another kind. Fields without a name here are dropped.
use Rattle.std.specs.Prelude.{ℕ, ℤ, List, Bool, codes, Option, Some, None, option_map, if◌then◌else◌, ◌||◌, Result, Ok, Err}
use Rattle.std.specs.Str.{bytes_eq}
use Rattle.serde_json.specs.Data.{Data, null, boolean, number, string, array, object}
use Rattle.serde_json.specs.Find.{get, as_str, as_array, as_integer}
use Rattle.json_form.specs.declared.fault.Fault.{Fault}
use Rattle.json_form.specs.declared.fault.Fault.TheVariants.{WrongKind}
use Rattle.json_form.specs.Forms.{◌>>=◌, of_kind, needed, optional, object_of, text_at, object_at, joined_at, each}
use Rattle.nb_doc.specs.declared.draft.Age.{Age}
use Rattle.nb_doc.specs.declared.draft.Age.TheVariants.{Current, Older}
use Rattle.nb_doc.specs.declared.draft.Draft.{Draft}
use Rattle.nb_doc.specs.declared.draft.Drafts.{Drafts}
use Rattle.nb_doc.specs.declared.notebook.Content.{Content}
use Rattle.nb_doc.specs.declared.notebook.Content.TheVariants as content
use Rattle.nb_doc.specs.declared.notebook.Execution.{Execution}
use Rattle.nb_doc.specs.declared.notebook.Output.{Output}
use Rattle.nb_doc.specs.declared.notebook.Output.TheVariants as output

-- ---- outputs

-- a list of texts
unfoldable pub texts_at : List ℕ → Data → Result (List (List ℕ)) Fault
texts_at key d = needed as_array (get key d) >>= each (λ e. of_kind (as_str e))

unfoldable pub stream_of : Data → Result Output Fault
stream_of d = do
  name ← text_at (codes "name") d
  text ← joined_at (codes "text") d
  Ok (output.Stream name text)

unfoldable pub error_of : Data → Result Output Fault
error_of d = do
  ename ← text_at (codes "ename") d
  evalue ← text_at (codes "evalue") d
  traceback ← texts_at (codes "traceback") d
  Ok (output.Error ename evalue traceback)

-- data that is shown, and the data of a result, are kept as they are
abbrev pub is_kept : List ℕ → Bool
is_kept kind = bytes_eq kind (codes "display_data") || bytes_eq kind (codes "execute_result")

unfoldable pub output_named : List ℕ → Data → Result Output Fault
output_named kind d =
    if bytes_eq kind (codes "stream") then stream_of d else
    if bytes_eq kind (codes "error") then error_of d else
    if is_kept kind then Ok (output.Kept d) else Err WrongKind

unfoldable pub output_of : Data → Result Output Fault
output_of d = text_at (codes "output_type") d >>= λ kind. output_named kind d

unfoldable pub outputs_at : Data → Result (List Output) Fault
outputs_at d = needed as_array (get (codes "outputs") d) >>= each output_of

-- ---- cells

-- a whole number, or `null`
abbrev pub count_of : Data → Option (Option ℤ)
count_of null = Some None
count_of (boolean b) = None
count_of (number n) = option_map (λ z. Some z) (as_integer n)
count_of (string s) = None
count_of (array ds) = None
count_of (object ms) = None

unfoldable pub count_at : Data → Result (Option ℤ) Fault
count_at d = needed count_of (get (codes "execution_count") d)

unfoldable pub execution_of : Data → Result Execution Fault
execution_of d = do
  count ← count_at d
  outputs ← outputs_at d
  Ok (record { execution_count = count; outputs = outputs })

abbrev pub some_object : Data → Option (Option Data)
some_object d = option_map (λ o. Some o) (object_of d)

-- an object that may be missing
unfoldable pub attachments_at : Data → Result (Option Data) Fault
attachments_at d = optional None some_object (get (codes "attachments") d)

unfoldable pub content_named : List ℕ → Data → Result Content Fault
content_named kind d =
    if bytes_eq kind (codes "code") then execution_of d >>= (λ e. Ok (content.Code e)) else
    if bytes_eq kind (codes "markdown") then attachments_at d >>= (λ a. Ok (content.Markdown a)) else
    if bytes_eq kind (codes "raw") then attachments_at d >>= (λ a. Ok (content.Raw a)) else Err WrongKind

abbrev pub some_text : Data → Option (Option (List ℕ))
some_text d = option_map (λ s. Some s) (as_str d)

-- an id has to stand in a cell of 4.5, and may be missing in an older one
unfoldable pub id_at : Age → Data → Result (Option (List ℕ)) Fault
id_at Current d = needed some_text (get (codes "id") d)
id_at Older d = optional None some_text (get (codes "id") d)

unfoldable pub draft_of : Age → Data → Result Draft Fault
draft_of age d = do
  kind ← text_at (codes "cell_type") d
  id ← id_at age d
  metadata ← object_at (codes "metadata") d
  source ← joined_at (codes "source") d
  content ← content_named kind d
  Ok (record { id = id; metadata = metadata; source = source; content = content })

-- ---- the notebook

unfoldable pub cells_at : Age → Data → Result (List Draft) Fault
cells_at age d = needed as_array (get (codes "cells") d) >>= each (draft_of age)

unfoldable pub drafts_of : Age → Data → Result Drafts Fault
drafts_of age d = do
  cells ← cells_at age d
  metadata ← object_at (codes "metadata") d
  Ok (record { cells = cells; metadata = metadata })
