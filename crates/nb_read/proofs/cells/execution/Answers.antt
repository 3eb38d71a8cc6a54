use Rattle.nb_read.proofs.cells.execution.Goals as goal

pub returns : goal.returns
returns c = record { kind = c.requires; count = c.in_ok-execution_count.ensures; outputs = c.in_ok-outputs.ensures }
