use Rattle.std.proofs.Common.{◌≤◌, sym, subst}
use Rattle.serde_json.specs.Data.{depth}
use Rattle.serde_json.specs.Read.{max_depth}
use Rattle.nb_doc.specs.Documents.{IsDocument}
use Rattle.nb_doc.specs.Writing.{notebook_form}
use Rattle.js_tables.proofs.Empty.{empty_document, empty_shallow}
use Rattle.js_tables.proofs.book.ReadNotebook.empty.Goals as goal

pub invariant_of-result : goal.invariant_of-result
invariant_of-result c =
    (subst IsDocument (sym c.empty.ensures) empty_document, subst (λ n. depth (notebook_form n) ≤ max_depth) (sym c.empty.ensures) empty_shallow, tt)
