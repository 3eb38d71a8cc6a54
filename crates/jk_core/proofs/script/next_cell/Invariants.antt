use Rattle.std.proofs.Common.{◌-◌, length}
use Rattle.jk_core.specs.State.{PassedBy}
use Rattle.jk_core.proofs.script.next_cell.Given as goal

-- none of those passed is a cell that is still to be given
abbrev pub invariant-loop-place : goal.invariant-loop-place
invariant-loop-place g l = PassedBy l.given l.place l.waiting.items

abbrev pub decreases-loop-place : goal.decreases-loop-place
decreases-loop-place g l = length l.waiting.items - l.place
