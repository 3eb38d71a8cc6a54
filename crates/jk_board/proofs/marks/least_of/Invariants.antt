use Rattle.std.proofs.Common.{◌≡◌, drop}
use Rattle.jk_board.specs.Marks.{least_lent}
use Rattle.jk_board.proofs.marks.least_of.Given as goal

abbrev pub invariant-loop-mark : goal.invariant-loop-mark
invariant-loop-mark l = least_lent l.least (drop l.mark-index l.marks) ≡ least_lent l.initial.least l.marks
