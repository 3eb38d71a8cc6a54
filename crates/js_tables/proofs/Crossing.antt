-- A notebook that was read may go to another thread.
use denote.Param.Send.{IsSend, sendable}
use Rattle.std.proofs.Crossing.{crosses}
use Rattle.std.proofs.MapsCrossing as maps
use Rattle.serde_json.proofs.value.Value.TheLaws.TheKnot as knot
use Rattle.json_form.proofs.Crossing.{json_send}
use Rattle.nb_doc.specs.contracts.notebook.Notebook as Notebook
use Rattle.js_tables.specs.contracts.book.ReadNotebook as ReadNotebook

notebook_send : IsSend Notebook.the_row
notebook_send = search (json_send, maps.crosses, crosses, knot.crosses, sendable) depth 60 fits 20000

pub read_notebook_send : IsSend ReadNotebook.the_row
read_notebook_send = search (notebook_send, json_send, maps.crosses, crosses, knot.crosses, sendable) depth 60 fits 20000
