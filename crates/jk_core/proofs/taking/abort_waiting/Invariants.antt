use Rattle.std.proofs.Common.{◌≡◌, ◌≤◌, ◌+◌, length}
use Rattle.jk_core.specs.Steps.{aborting}
use Rattle.jk_core.proofs.taking.abort_waiting.Given as goal

-- what is left to abort or answer leads where all of it did
abbrev pub invariant-loop-popped : goal.invariant-loop-popped
invariant-loop-popped g l = record {
  fits : length l.script.state.waits ≤ l.script.room;
  left : aborting l.script.state.waits l.script.state ≡ aborting l.initial.script.state.waits l.initial.script.state;
  room : l.initial.script.room + length l.script.state.waits ≤ l.script.room + length l.initial.script.state.waits;
}

abbrev pub decreases-loop-popped : goal.decreases-loop-popped
decreases-loop-popped g l = length l.script.state.waits
