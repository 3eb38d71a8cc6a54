use Rattle.nb_read.specs.Lent.{data_view}
use Rattle.nb_read.proofs.Exact.{value_document, value_shallow}
use Rattle.nb_read.proofs.reading.notebook_of_lent.Goals as goal

pub returns-then-is_current-clause-document : goal.returns-then-is_current-clause-document
returns-then-is_current-clause-document c = value_document (data_view c.args.value.now) c.current_notebook.result c.current_notebook.ensures.found c.current_notebook.ensures.few

pub returns-then-is_current-clause-shallow : goal.returns-then-is_current-clause-shallow
returns-then-is_current-clause-shallow c = value_shallow (data_view c.args.value.now) c.current_notebook.result c.current_notebook.ensures.found
