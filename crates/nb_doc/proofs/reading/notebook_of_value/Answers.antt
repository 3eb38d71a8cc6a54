use Rattle.serde_json.specs.View.{view}
use Rattle.nb_doc.proofs.Law.{value_found_if_exact, value_only_if_exact}
use Rattle.nb_doc.proofs.Documents.{value_document_if_found}
use Rattle.nb_doc.proofs.Shallow.{value_shallow_if_found}
use Rattle.nb_doc.proofs.reading.notebook_of_value.Goals as goal

pub returns-clause-found : goal.returns-clause-found
returns-clause-found c = value_found_if_exact c.notebook.result (view c.args.value) c.notebook.ensures.exact

pub returns-clause-only : goal.returns-clause-only
returns-clause-only c = value_only_if_exact c.notebook.result (view c.args.value) c.notebook.ensures.exact

pub returns-clause-document : goal.returns-clause-document
returns-clause-document c =
    value_document_if_found c.notebook.result (view c.args.value) (value_found_if_exact c.notebook.result (view c.args.value) c.notebook.ensures.exact) c.notebook.ensures.few

pub returns-clause-shallow : goal.returns-clause-shallow
returns-clause-shallow c =
    value_shallow_if_found c.notebook.result (view c.args.value) (value_found_if_exact c.notebook.result (view c.args.value) c.notebook.ensures.exact)
