use Rattle.nb_read.specs.Lent.{data_view}
use Rattle.nb_read.proofs.BookPuts.{text_put}
use Rattle.nb_read.proofs.puts.put_in.Goals as goal

pub returns-clause-put : goal.returns-clause-put
returns-clause-put c = text_put c.args.text.now (data_view c.in_ok-value.value) c.put_of.result c.requires c.utf8.text c.in_ok-value.ensures.reads c.in_ok-value.ensures.whole c.put_of.ensures.put
