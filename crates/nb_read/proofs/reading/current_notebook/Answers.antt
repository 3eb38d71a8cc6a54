use Rattle.nb_read.specs.Lent.{data_view}
use Rattle.nb_read.proofs.Own.{notebook_is}
use Rattle.nb_read.proofs.reading.current_notebook.Goals as goal

pub returns-clause-found : goal.returns-clause-found
returns-clause-found c =
    let read = c.in_ok-cells.ensures in
    notebook_is (data_view c.args.value.now) (record { cells = c.in_ok-cells.cells; metadata = c.in_ok-metadata.metadata }) c.requires.major c.requires.minor read.cells read.allowed read.distinct c.in_ok-metadata.ensures
