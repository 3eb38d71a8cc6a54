-- To be believed.
-- Which texts are notebooks, in facts about their fields, with no word on faults ("The Jupyter notebook format",
-- nbformat 4.5; a text of 4.0 to 4.4 is the notebook of 4.5 that it is raised to).
use Rattle.std.specs.Prelude.{◌≡◌, ◌⊎◌, ◌<◌, ℕ, pos, List, [], ◌∷◌, true, false, codes, Option, Some, None, option_and_then}
use Rattle.std.specs.Result.{result_ok}
use Rattle.std.specs.List.{list_all}
use Rattle.std.specs.Str.{IsUtf8}
use Rattle.serde_json.specs.Data.{Data, Items, no_items, item}
use Rattle.serde_json.specs.Find.{get, as_str, as_array}
use Rattle.serde_json.specs.Read.{read}
use Rattle.json_form.specs.Forms.{Has, whole_of, object_of, joined_of, text_has_float}
use Rattle.nb_doc.specs.declared.draft.Age.{Age}
use Rattle.nb_doc.specs.declared.draft.Age.TheVariants.{Current, Older}
use Rattle.nb_doc.specs.declared.notebook.Notebook.{Notebook}
use Rattle.nb_doc.specs.declared.notebook.Cell.{Cell}
use Rattle.nb_doc.specs.declared.notebook.Content.{Content}
use Rattle.nb_doc.specs.declared.notebook.Content.TheVariants as content
use Rattle.nb_doc.specs.declared.notebook.Execution.{Execution}
use Rattle.nb_doc.specs.declared.notebook.Output.{Output}
use Rattle.nb_doc.specs.declared.notebook.Output.TheVariants as output
use Rattle.nb_doc.specs.Fields.{count_of}
use Rattle.nb_doc.specs.Ids.{is_allowed, are_distinct, name_of, least_free}
use Rattle.nb_doc.specs.Documents.{IsKept}

-- the members of a list, one fact for each
abbrev pub Members : {A : Type 0} → (Data → A → Type 0) → Items → List A → Type 0
Members P no_items [] = Unit {0}
Members P no_items (x ∷ xs) = ⊥
Members P (item d ds) [] = ⊥
Members P (item d ds) (x ∷ xs) = P d x × Members P ds xs

-- a field that is a list
pub record HasList {A : Type 0} (P : Data → A → Type 0) (key : List ℕ) (d : Data) (xs : List A) : Type 0 where
  pub items : Items
  pub has_items : Has as_array key d items
  pub members : Members P items xs

-- a text, or a list of texts that are joined
abbrev pub joined_text : Data → Option (List ℕ)
joined_text d = result_ok (joined_of d)

abbrev pub IsText : Data → List ℕ → Type 0
IsText d s = as_str d ≡ Some s

-- ---- outputs

pub record IsStream (d : Data) (name text : List ℕ) : Type 0 where
  pub kind : Has as_str (codes "output_type") d (codes "stream")
  pub name_is : Has as_str (codes "name") d name
  pub text_is : Has joined_text (codes "text") d text

pub record IsError (d : Data) (ename evalue : List ℕ) (traceback : List (List ℕ)) : Type 0 where
  pub kind : Has as_str (codes "output_type") d (codes "error")
  pub ename_is : Has as_str (codes "ename") d ename
  pub evalue_is : Has as_str (codes "evalue") d evalue
  pub traceback_is : HasList IsText (codes "traceback") d traceback

abbrev pub IsOutputOf : Data → Output → Type 0
IsOutputOf d (output.Stream name text) = IsStream d name text
IsOutputOf d (output.Error ename evalue traceback) = IsError d ename evalue traceback
IsOutputOf d (output.Kept e) = (e ≡ d) × IsKept d

-- ---- cells

pub record IsCode (d : Data) (e : Execution) : Type 0 where
  pub kind : Has as_str (codes "cell_type") d (codes "code")
  pub count : Has count_of (codes "execution_count") d e.execution_count
  pub outputs : HasList IsOutputOf (codes "outputs") d e.outputs

-- an object, or nothing
abbrev pub HasAttachments : Data → Option Data → Type 0
HasAttachments d None = get (codes "attachments") d ≡ None
HasAttachments d (Some a) = Has object_of (codes "attachments") d a

abbrev pub IsContentOf : Data → Content → Type 0
IsContentOf d (content.Code e) = IsCode d e
IsContentOf d (content.Markdown a) = Has as_str (codes "cell_type") d (codes "markdown") × HasAttachments d a
IsContentOf d (content.Raw a) = Has as_str (codes "cell_type") d (codes "raw") × HasAttachments d a

pub record IsCellOf (d : Data) (c : Cell) : Type 0 where
  pub metadata : Has object_of (codes "metadata") d c.metadata
  pub source : Has joined_text (codes "source") d c.source
  pub content : IsContentOf d c.content

-- the ids that stand in the text
abbrev pub id_among : Option (List ℕ) → List (List ℕ) → List (List ℕ)
id_among None ids = ids
id_among (Some id) ids = id ∷ ids

abbrev pub ids_in : Items → List (List ℕ)
ids_in no_items = []
ids_in (item d ds) = id_among (option_and_then as_str (get (codes "id") d)) (ids_in ds)

-- the ids: each stands there, or, in an older notebook, is the least name that is free
abbrev pub AreIds : Age → List (List ℕ) → Items → List Cell → Type 0
AreIds age taken no_items [] = Unit {0}
AreIds age taken no_items (c ∷ cs) = ⊥
AreIds age taken (item d ds) [] = ⊥
AreIds age taken (item d ds) (c ∷ cs) =
    (Has as_str (codes "id") d c.id × AreIds age taken ds cs)
    ⊎ ((age ≡ Older) × (get (codes "id") d ≡ None) × (c.id ≡ name_of (least_free taken)) × AreIds age (c.id ∷ taken) ds cs)

-- ---- the notebook

abbrev pub HasVersion : Age → Data → Type 0
HasVersion Current d = Has whole_of (codes "nbformat_minor") d (pos 5)
HasVersion Older d = (minor : ℕ) × (minor < 5) × Has whole_of (codes "nbformat_minor") d (pos minor)

pub record IsNotebook (d : Data) (n : Notebook) : Type 0 where
  pub version : Has whole_of (codes "nbformat") d (pos 4)
  pub age : Age
  pub has_age : HasVersion age d
  pub items : Items
  pub has_items : Has as_array (codes "cells") d items
  pub cells : Members IsCellOf items n.cells
  pub ids : AreIds age (ids_in items) items n.cells
  pub allowed : list_all is_allowed (ids_in items) ≡ true
  pub distinct : are_distinct (ids_in items) ≡ true
  pub metadata : Has object_of (codes "metadata") d n.metadata

pub record IsNotebookText (text : List ℕ) (n : Notebook) : Type 0 where
  pub utf8 : IsUtf8 text
  pub value : Data
  pub reads : read text ≡ Some value
  pub whole : text_has_float text ≡ false
  pub notebook : IsNotebook value n
