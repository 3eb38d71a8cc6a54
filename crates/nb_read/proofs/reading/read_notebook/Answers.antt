use Rattle.nb_read.proofs.Exact.{text_exact, text_only, text_document, text_shallow}
use Rattle.nb_read.proofs.reading.read_notebook.Goals as goal

pub returns-in-Ok-clause-only : goal.returns-in-Ok-clause-only
returns-in-Ok-clause-only c = text_only c.args.text.now c.in-Ok.notebook c.in-Ok.ensures.found

pub returns-in-Ok-clause-exact : goal.returns-in-Ok-clause-exact
returns-in-Ok-clause-exact c = text_exact c.args.text.now c.in-Ok.notebook c.in-Ok.ensures.found

pub returns-in-Ok-clause-document : goal.returns-in-Ok-clause-document
returns-in-Ok-clause-document c = text_document c.args.text.now c.in-Ok.notebook c.in-Ok.ensures.found c.in-Ok.ensures.few

pub returns-in-Ok-clause-shallow : goal.returns-in-Ok-clause-shallow
returns-in-Ok-clause-shallow c = text_shallow c.args.text.now c.in-Ok.notebook c.in-Ok.ensures.found
