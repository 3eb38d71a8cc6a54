use Rattle.std.proofs.Common.{◌+◌, ◌-◌, ◌*◌, ◌≤◌, length}
use Rattle.jk_core.specs.Slices.{HasCome, weight}
use Rattle.jk_core.proofs.slice.advance.Given as goal

-- the machine has come to the limit, with all lines so far
abbrev pub invariant-loop-answer : goal.invariant-loop-answer
invariant-loop-answer g l = record {
  came : HasCome g.L.Language.spoken g.L.Language.state l.fn.script.state l.script.state l.limit l.answer l.active;
  room : 2 + length l.script.state.waits ≤ l.script.room;
}

abbrev pub decreases-loop-answer : goal.decreases-loop-answer
decreases-loop-answer g l = 2 * (l.limit - (g.L.Language.state l.active.machine).turns) + weight l.answer
