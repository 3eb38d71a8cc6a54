use Rattle.std.proofs.Common.{length}
use Rattle.ob_reference_store.specs.States.{supply_in}
use Rattle.ob_reference_store.proofs.input.+read.Given as goal

abbrev pub decreases-read : goal.decreases-read
decreases-read l = length (supply_in l.state.now).lines
