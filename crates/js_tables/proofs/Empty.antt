-- An empty notebook is a document, and nests no deeper than JSON is read.
use Rattle.std.proofs.Common.{◌≤◌, arith, refl}
use Rattle.serde_json.specs.Data.{depth}
use Rattle.serde_json.specs.Read.{max_depth}
use Rattle.nb_doc.specs.Building.{empty_notebook}
use Rattle.nb_doc.specs.Documents.{IsDocument}
use Rattle.nb_doc.specs.Writing.{cells_form, notebook_form}

pub empty_document : IsDocument empty_notebook
empty_document = record { cells = tt; distinct = refl; metadata = refl }

pub empty_shallow : depth (notebook_form empty_notebook) ≤ max_depth
unfolding notebook_form cells_form
empty_shallow = omega arith
