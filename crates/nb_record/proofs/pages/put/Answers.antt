use Rattle.std.proofs.Common.{◌&&◌, ap, ◌∙◌}
use Rattle.nb_doc.specs.Ids.{is_among}
use Rattle.nb_record.specs.Book.{has_code}
use Rattle.nb_record.specs.State.{running_in}
use Rattle.nb_record.proofs.Follow.{puts}
use Rattle.nb_record.proofs.Readable.{puts_readable}
use Rattle.nb_record.proofs.pages.put.Goals as goal

pub returns-clause-ok : goal.returns-clause-ok
returns-clause-ok c =
    puts c.args.pages.now c.in_ok-cells.cells c.in_ok-still.still c.args.notebook c.requires.new.distinct c.in_ok-cells.ensures
    (λ q. c.in_ok-still.ensures q ∙ ap (λ l. has_code l q && is_among c.args.pages.now.executed q) c.as_slice.ensures)

pub returns-clause-readable : goal.returns-clause-readable
returns-clause-readable c =
    puts_readable c.in_ok-still.still (running_in c.args.pages.now) c.args.pages.now.notebook.cells c.in_ok-cells.cells c.args.notebook c.in_ok-cells.ensures c.requires.readable.cells c.requires.new
