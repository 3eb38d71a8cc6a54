use Rattle.std.proofs.Common.{◌≡◌, ◌-◌, ◌++◌, take, drop, length}
use Rattle.jk_board.specs.Rows.{flat}
use Rattle.jk_board.proofs.posted.rows.RowHolds.copy_from.Given as goal

abbrev pub invariant-loop-i : goal.invariant-loop-i
invariant-loop-i g l = l.found.items ≡ l.initial.found.items ++ take (l.max - length l.initial.found.items) (drop l.place (flat g.T.Holds.entries (take l.i l.parts.items)))
