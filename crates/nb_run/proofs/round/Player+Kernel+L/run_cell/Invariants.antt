use Rattle.std.proofs.Common.{◌-◌, ◌≡◌, List}
use Rattle.std.specs.List.{list_any}
use Rattle.jk_log.specs.declared.arrival.Arrival.{Arrival}
use Rattle.jk_log.specs.declared.entry.Entry.{Entry}
use Rattle.nb_run.specs.Going.{Goes}
use Rattle.nb_run.specs.Runs.{IsSentFor, is_done}
use Rattle.nb_run.proofs.round.Player+Kernel+L.run_cell.Given as goal

-- its request was sent, and what it asked for
abbrev pub invariant-slices : goal.invariant-slices
invariant-slices g l =
    (sent : List Arrival) × (told : List Entry) × Goes l.fn.self l.self sent told × IsSentFor l.code sent × (l.done ≡ list_any is_done told)

abbrev pub decreases-slices : goal.decreases-slices
decreases-slices g l = 18446744073709551615 - l.slices
