use Rattle.std.proofs.Common.{◌≡◌, ◌≤◌, ◌+◌, length}
use Rattle.jk_core.specs.Steps.{answering}
use Rattle.jk_core.proofs.start.answer_queries.Given as goal

-- what is left to answer leads where all of it did
abbrev pub invariant-loop-first : goal.invariant-loop-first
invariant-loop-first g l = record {
  fits : length l.script.state.waits ≤ l.script.room;
  left : answering l.script.state.waits l.script.state ≡ answering l.initial.script.state.waits l.initial.script.state;
  room : l.initial.script.room + length l.script.state.waits ≤ l.script.room + length l.initial.script.state.waits;
}

abbrev pub decreases-loop-first : goal.decreases-loop-first
decreases-loop-first g l = length l.script.state.waits
