use Rattle.std.proofs.Common.{◌≡◌, ◌++◌, map}
use Rattle.std.specs.Vec.Iter.{into_iter_items}
use Rattle.js_follow.specs.Joining.{joint_cell}
use Rattle.js_follow.proofs.joining.their_cells.Given as goal

-- the cells so far, before those that are left, are theirs
abbrev pub invariant-loop-cell : goal.invariant-loop-cell
invariant-loop-cell l =
    l.joint.items ++ map (joint_cell l.known l.own) (into_iter_items l.cell-iterator) ≡ map (joint_cell l.known l.own) l.fn.cells
