-- To be believed.
-- Which notebooks are documents of 4.5: what a text can hold ("The Jupyter notebook format", nbformat 4.5).
use Rattle.std.specs.Prelude.{◌≡◌, ℕ, List, [], ◌∷◌, map, true, codes, Option, Some, None}
use Rattle.std.specs.List.{AllByRecursion}
use Rattle.serde_json.specs.Data.{Data}
use Rattle.serde_json.specs.Find.{as_str}
use Rattle.json_form.specs.Forms.{Has, object_of}
use Rattle.nb_doc.specs.declared.notebook.Notebook.{Notebook}
use Rattle.nb_doc.specs.declared.notebook.Cell.{Cell}
use Rattle.nb_doc.specs.declared.notebook.Content.{Content}
use Rattle.nb_doc.specs.declared.notebook.Content.TheVariants as content
use Rattle.nb_doc.specs.declared.notebook.Output.{Output}
use Rattle.nb_doc.specs.declared.notebook.Output.TheVariants as output
use Rattle.nb_doc.specs.Fields.{is_kept}
use Rattle.nb_doc.specs.Ids.{is_allowed, are_distinct}
use Rattle.nb_doc.specs.Writing.{joined}

abbrev pub IsObject : Data → Type 0
IsObject d = object_of d ≡ Some d

-- an output that is kept as it is says which one it is
pub record IsKept (d : Data) : Type 0 where
  pub kind : List ℕ
  pub has_kind : Has as_str (codes "output_type") d kind
  pub kept : is_kept kind ≡ true

abbrev pub IsOutput : Output → Type 0
IsOutput (output.Stream name text) = Unit {0}
IsOutput (output.Error ename evalue traceback) = Unit {0}
IsOutput (output.Kept d) = IsKept d

abbrev pub AreAttachments : Option Data → Type 0
AreAttachments None = Unit {0}
AreAttachments (Some d) = IsObject d

abbrev pub IsContent : Content → Type 0
IsContent (content.Code e) = AllByRecursion IsOutput e.outputs
IsContent (content.Markdown attachments) = AreAttachments attachments
IsContent (content.Raw attachments) = AreAttachments attachments

pub record IsCell (c : Cell) : Type 0 where
  pub id : is_allowed c.id ≡ true
  pub metadata : IsObject c.metadata
  pub content : IsContent c.content

abbrev pub ids : List Cell → List (List ℕ)
ids cs = map (λ c. c.id) cs

pub record IsDocument (n : Notebook) : Type 0 where
  pub cells : AllByRecursion IsCell n.cells
  pub distinct : are_distinct (ids n.cells) ≡ true
  pub metadata : IsObject n.metadata

-- ---- the notebook with neighbouring streams joined

abbrev pub joined_content : Content → Content
joined_content (content.Code e) = content.Code (record e { outputs = joined e.outputs })
joined_content (content.Markdown attachments) = content.Markdown attachments
joined_content (content.Raw attachments) = content.Raw attachments

abbrev pub joined_cell : Cell → Cell
joined_cell c = record c { content = joined_content c.content }

unfoldable pub joined_notebook : Notebook → Notebook
joined_notebook n = record { cells = map joined_cell n.cells; metadata = n.metadata }
