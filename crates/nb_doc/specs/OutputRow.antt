-- Outputs that are written one after another: what is written, and the stream that the next one may go on with.
use Rattle.std.specs.Prelude.{List, [], ◌∷◌, ◌++◌, map, Option, Some, None}
use Rattle.serde_json.specs.Data.{Data}
use Rattle.nb_doc.specs.declared.notebook.Output.{Output}
use Rattle.nb_doc.specs.declared.notebook.Output.TheVariants as output
use Rattle.nb_doc.specs.declared.output_row.OpenStream.{OpenStream}
use Rattle.nb_doc.specs.declared.output_row.OutputRow.{OutputRow}
use Rattle.nb_doc.specs.Writing.{joined, output_form, stream_form}

abbrev pub forms : List Output → List Data
forms os = map output_form (joined os)

abbrev pub opened : Option OpenStream → List Output → List Output
opened None rest = rest
opened (Some s) rest = output.Stream s.name s.text ∷ rest

-- all that is written where these outputs are left
abbrev pub row_forms : OutputRow → List Output → List Data
row_forms row rest = row.written ++ forms (opened row.open rest)

abbrev pub open_forms : Option OpenStream → List Data
open_forms None = []
open_forms (Some s) = stream_form s.name s.text ∷ []

abbrev pub closed_forms : OutputRow → List Data
closed_forms row = row.written ++ open_forms row.open
