use Rattle.nb_read.specs.Lent.{data_view}
use Rattle.nb_read.proofs.Exact.{text_found}
use Rattle.nb_read.proofs.reading.notebook_in.Goals as goal

pub returns-clause-found : goal.returns-clause-found
returns-clause-found c = text_found c.args.text.now (data_view c.in_ok-value.value) c.notebook_of_lent.result c.utf8.text c.in_ok-value.ensures.reads c.in_ok-value.ensures.whole c.notebook_of_lent.ensures.found
