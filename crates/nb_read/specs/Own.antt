-- Cells that have ids of their own, as those of 4.5 have.
use Rattle.std.specs.Prelude.{codes, List}
use Rattle.serde_json.specs.Data.{Data}
use Rattle.serde_json.specs.Find.{as_str}
use Rattle.json_form.specs.Forms.{Has}
use Rattle.nb_doc.specs.declared.notebook.Cell.{Cell}
use Rattle.nb_doc.specs.TextForms.{IsCellOf, HasList}

abbrev pub IsOwnCell : Data → Cell → Type 0
IsOwnCell d c = IsCellOf d c × Has as_str (codes "id") d c.id

abbrev pub HasCells : Data → List Cell → Type 0
HasCells d cs = HasList IsOwnCell (codes "cells") d cs
