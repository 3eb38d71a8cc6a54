-- Notebooks in which no two neighbouring streams of one cell have the same name.
use Rattle.std.specs.Prelude.{◌≡◌, ℕ, List, false, Option, Some, None}
use Rattle.std.specs.List.{AllByRecursion}
use Rattle.std.specs.Borrow.{Bor}
use Rattle.std.specs.Str.{bytes_eq}
use Rattle.nb_doc.specs.declared.notebook.Notebook.{Notebook}
use Rattle.nb_doc.specs.declared.notebook.Cell.{Cell}
use Rattle.nb_doc.specs.declared.notebook.Content.{Content}
use Rattle.nb_doc.specs.declared.notebook.Content.TheVariants as content
use Rattle.nb_doc.specs.declared.notebook.Output.{Output}
use Rattle.nb_doc.specs.declared.notebook.Output.TheVariants as output
use Rattle.nb_doc.specs.Writing.{joined}

abbrev pub IsJoinedContent : Content → Type 0
IsJoinedContent (content.Code e) = joined e.outputs ≡ e.outputs
IsJoinedContent (content.Markdown attachments) = Unit {0}
IsJoinedContent (content.Raw attachments) = Unit {0}

abbrev pub IsJoinedCell : Cell → Type 0
IsJoinedCell c = IsJoinedContent c.content

abbrev pub IsJoined : Notebook → Type 0
IsJoined n = AllByRecursion IsJoinedCell n.cells

-- an output is no stream of this name
abbrev pub IsOther : List ℕ → Output → Type 0
IsOther name (output.Stream own text) = bytes_eq name own ≡ false
IsOther name (output.Error ename evalue traceback) = Unit {0}
IsOther name (output.Kept d) = Unit {0}

-- two outputs are no streams of one name
abbrev pub AreApart : Output → Output → Type 0
AreApart (output.Stream name text) next = IsOther name next
AreApart (output.Error ename evalue traceback) next = Unit {0}
AreApart (output.Kept d) next = Unit {0}

-- an output stays apart from the last one, if there is one
abbrev pub MayFollow : Option (Bor Output) → Output → Type 0
MayFollow None next = Unit {0}
MayFollow (Some last) next = AreApart last.now next
