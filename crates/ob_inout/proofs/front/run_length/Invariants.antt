use Rattle.std.proofs.Common.{◌≡◌, ◌+◌, drop}
use Rattle.std.specs.List.{prefix_len}
use Rattle.ob_inout.specs.Runs.{has}
use Rattle.ob_inout.proofs.front.run_length.Given as goal

abbrev pub invariant-loop-i : goal.invariant-loop-i
invariant-loop-i l = prefix_len (has l.run) l.chars ≡ l.i + prefix_len (has l.run) (drop l.i l.chars)
