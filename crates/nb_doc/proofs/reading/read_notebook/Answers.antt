use Rattle.nb_doc.proofs.Law.{found_if_exact, only_if_exact}
use Rattle.nb_doc.proofs.Documents.{document_if_found}
use Rattle.nb_doc.proofs.Shallow.{shallow_if_found}
use Rattle.nb_doc.proofs.reading.read_notebook.Goals as goal

pub returns-clause-found : goal.returns-clause-found
returns-clause-found c = found_if_exact c.notebook_in.result c.args.text.now c.notebook_in.ensures.exact

pub returns-clause-only : goal.returns-clause-only
returns-clause-only c = only_if_exact c.notebook_in.result c.args.text.now c.notebook_in.ensures.exact

pub returns-clause-document : goal.returns-clause-document
returns-clause-document c = document_if_found c.notebook_in.result c.args.text.now (found_if_exact c.notebook_in.result c.args.text.now c.notebook_in.ensures.exact) c.notebook_in.ensures.few

pub returns-clause-shallow : goal.returns-clause-shallow
returns-clause-shallow c = shallow_if_found c.notebook_in.result c.args.text.now (found_if_exact c.notebook_in.result c.args.text.now c.notebook_in.ensures.exact)
