-- To be believed.
-- The notebooks that a recorder keeps: documents of 4.5 ("The Jupyter notebook format", nbformat 4.5) that nest no
-- deeper, once they are written, than JSON is read, so that what is written reads back. JSON is read to depth 127; a
-- notebook nests cells by two, and a cell its outputs by two.
use Rattle.std.specs.Prelude.{◌≡◌, ◌≤◌, true, Option, Some, None}
use Rattle.std.specs.List.{AllByRecursion}
use Rattle.serde_json.specs.Data.{Data, depth}
use Rattle.nb_doc.specs.declared.notebook.Notebook.{Notebook}
use Rattle.nb_doc.specs.declared.notebook.Cell.{Cell}
use Rattle.nb_doc.specs.declared.notebook.Content.{Content}
use Rattle.nb_doc.specs.declared.notebook.Content.TheVariants as content
use Rattle.nb_doc.specs.declared.notebook.Output.{Output}
use Rattle.nb_doc.specs.Documents.{IsObject, IsOutput, ids}
use Rattle.nb_doc.specs.Ids.{is_allowed, are_distinct}
use Rattle.nb_doc.specs.Writing.{output_form}

pub record IsReadableOutput (o : Output) : Type 0 where
  pub document : IsOutput o
  pub shallow : depth (output_form o) ≤ 123

abbrev pub AreReadableAttachments : Option Data → Type 0
AreReadableAttachments None = Unit {0}
AreReadableAttachments (Some d) = IsObject d × (depth d ≤ 124)

abbrev pub IsReadableContent : Content → Type 0
IsReadableContent (content.Code e) = AllByRecursion IsReadableOutput e.outputs
IsReadableContent (content.Markdown attachments) = AreReadableAttachments attachments
IsReadableContent (content.Raw attachments) = AreReadableAttachments attachments

pub record IsReadableCell (c : Cell) : Type 0 where
  pub id : is_allowed c.id ≡ true
  pub metadata : IsObject c.metadata
  pub shallow : depth c.metadata ≤ 124
  pub content : IsReadableContent c.content

pub record IsReadable (n : Notebook) : Type 0 where
  pub cells : AllByRecursion IsReadableCell n.cells
  pub distinct : are_distinct (ids n.cells) ≡ true
  pub metadata : IsObject n.metadata
  pub shallow : depth n.metadata ≤ 126
