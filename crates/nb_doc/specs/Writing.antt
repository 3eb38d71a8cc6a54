-- To be believed.
-- The one text of a notebook ("The Jupyter notebook format", nbformat 4.5): two blanks a level, each object's keys
-- sorted, a line end at last. Sources and the texts of streams are lists of lines.
use Rattle.std.specs.Prelude.{ℕ, ℤ, ◌==◌, List, [], ◌∷◌, ◌++◌, map, codes, Option, Some, None, if◌then◌else◌}
use Rattle.std.specs.Str.{bytes_eq}
use Rattle.serde_json.specs.Data.{Data, null, number, string, array, object, unsigned, Members, no_members, member}
use Rattle.serde_json.specs.Find.{of_integer}
use Rattle.serde_json.specs.View.{items_of}
use Rattle.json_form.specs.Forms.{pretty_text}
use Rattle.nb_doc.specs.declared.notebook.Notebook.{Notebook}
use Rattle.nb_doc.specs.declared.notebook.Cell.{Cell}
use Rattle.nb_doc.specs.declared.notebook.Content.{Content}
use Rattle.nb_doc.specs.declared.notebook.Content.TheVariants as content
use Rattle.nb_doc.specs.declared.notebook.Execution.{Execution}
use Rattle.nb_doc.specs.declared.notebook.Output.{Output}
use Rattle.nb_doc.specs.declared.notebook.Output.TheVariants as output

-- an object of these fields, which stand in the order of their keys
abbrev pub members : List (List ℕ × Data) → Members
members [] = no_members
members (m ∷ ms) = member m.0 m.1 (members ms)

abbrev pub fields : List (List ℕ × Data) → Data
fields ms = object (members ms)

abbrev pub array_of : List Data → Data
array_of ds = array (items_of ds)

-- ---- texts

abbrev pub onto_first : ℕ → List (List ℕ) → List (List ℕ)
onto_first b [] = (b ∷ []) ∷ []
onto_first b (l ∷ ls) = (b ∷ l) ∷ ls

-- the lines of a text with their ends, U+000A; what follows the last one, if there is something
unfoldable pub lines_of : List ℕ → List (List ℕ)
lines_of [] = []
lines_of (b ∷ bs) = if b == 10 then (10 ∷ []) ∷ lines_of bs else onto_first b (lines_of bs)

unfoldable pub texts_form : List (List ℕ) → Data
texts_form ts = array_of (map (λ t. string t) ts)

unfoldable pub lines_form : List ℕ → Data
lines_form text = texts_form (lines_of text)

-- ---- outputs

-- a stream before a stream of its name is one with it
abbrev pub join_onto : Output → List Output → List Output
join_onto (output.Stream a s) [] = output.Stream a s ∷ []
join_onto (output.Stream a s) (output.Stream b t ∷ os) = if bytes_eq a b then output.Stream a (s ++ t) ∷ os else output.Stream a s ∷ output.Stream b t ∷ os
join_onto (output.Stream a s) (output.Error e v t ∷ os) = output.Stream a s ∷ output.Error e v t ∷ os
join_onto (output.Stream a s) (output.Kept d ∷ os) = output.Stream a s ∷ output.Kept d ∷ os
join_onto (output.Error e v t) os = output.Error e v t ∷ os
join_onto (output.Kept d) os = output.Kept d ∷ os

-- neighbouring streams of one name joined
unfoldable pub joined : List Output → List Output
joined [] = []
joined (o ∷ os) = join_onto o (joined os)

unfoldable pub stream_form : List ℕ → List ℕ → Data
stream_form name text = fields ((codes "name", string name) ∷ (codes "output_type", string (codes "stream")) ∷ (codes "text", lines_form text) ∷ [])

unfoldable pub error_form : List ℕ → List ℕ → List (List ℕ) → Data
error_form ename evalue traceback =
    fields ((codes "ename", string ename) ∷ (codes "evalue", string evalue) ∷ (codes "output_type", string (codes "error")) ∷ (codes "traceback", texts_form traceback) ∷ [])

unfoldable pub output_form : Output → Data
output_form (output.Stream name text) = stream_form name text
output_form (output.Error ename evalue traceback) = error_form ename evalue traceback
output_form (output.Kept d) = d

unfoldable pub outputs_form : List Output → Data
outputs_form os = array_of (map output_form (joined os))

-- ---- cells

unfoldable pub count_form : Option ℤ → Data
count_form None = null
count_form (Some z) = number (of_integer z)

unfoldable pub code_form : List ℕ → Data → List ℕ → Execution → Data
code_form id metadata source e =
    fields ((codes "cell_type", string (codes "code")) ∷ (codes "execution_count", count_form e.execution_count) ∷ (codes "id", string id) ∷
    (codes "metadata", metadata) ∷ (codes "outputs", outputs_form e.outputs) ∷ (codes "source", lines_form source) ∷ [])

-- a cell of text, with its attachments where it has some
unfoldable pub text_form : List ℕ → List ℕ → Data → List ℕ → Option Data → Data
text_form kind id metadata source None =
    fields ((codes "cell_type", string kind) ∷ (codes "id", string id) ∷ (codes "metadata", metadata) ∷ (codes "source", lines_form source) ∷ [])
text_form kind id metadata source (Some attachments) =
    fields ((codes "attachments", attachments) ∷ (codes "cell_type", string kind) ∷ (codes "id", string id) ∷ (codes "metadata", metadata) ∷ (codes "source", lines_form source) ∷ [])

abbrev pub content_form : List ℕ → Data → List ℕ → Content → Data
content_form id metadata source (content.Code e) = code_form id metadata source e
content_form id metadata source (content.Markdown a) = text_form (codes "markdown") id metadata source a
content_form id metadata source (content.Raw a) = text_form (codes "raw") id metadata source a

unfoldable pub cell_form : Cell → Data
cell_form c = content_form c.id c.metadata c.source c.content

-- ---- the notebook

unfoldable pub cells_form : List Cell → Data
cells_form cs = array_of (map cell_form cs)

unfoldable pub notebook_form : Notebook → Data
notebook_form n =
    fields ((codes "cells", cells_form n.cells) ∷ (codes "metadata", n.metadata) ∷ (codes "nbformat", number (unsigned 4)) ∷ (codes "nbformat_minor", number (unsigned 5)) ∷ [])

unfoldable pub notebook_text : Notebook → List ℕ
notebook_text n = pretty_text (notebook_form n) ++ 10 ∷ []
