use Rattle.std.proofs.Common.{length, ◌-◌, ◌≡◌, List}
use Rattle.jk_log.specs.declared.arrival.Arrival.{Arrival}
use Rattle.jk_log.specs.declared.entry.Entry.{Entry}
use Rattle.nb_run.specs.Going.{Goes, IsQuiet}
use Rattle.nb_run.proofs.Rounds.{RunsOn}
use Rattle.nb_run.proofs.run.run_cells.Given as goal

-- the cells before this place were run
abbrev pub invariant-cells : goal.invariant-cells
invariant-cells g l =
    (sent : List Arrival) × (told : List Entry) × Goes l.fn.player l.player sent told × IsQuiet l.player.kernel
    × RunsOn l.all l.codes l.place sent told l.ok

abbrev pub decreases-cells : goal.decreases-cells
decreases-cells g l = length l.codes - l.place
