use Rattle.std.proofs.Common.{◌-◌, ◌≤◌, take, length}
use Rattle.jk_board.specs.Rows.{flat}
use Rattle.jk_board.proofs.posted.rows.part_at.Given as goal

abbrev pub invariant-halves : goal.invariant-halves
invariant-halves g l = record {
  before : length (flat g.T.Holds.entries (take l.low l.parts)) ≤ l.place;
  order : l.low ≤ l.high;
  within : l.high ≤ length l.parts;
}

abbrev pub decreases-halves : goal.decreases-halves
decreases-halves g l = l.high - l.low
