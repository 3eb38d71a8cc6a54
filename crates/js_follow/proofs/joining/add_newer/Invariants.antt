use Rattle.std.proofs.Common.{◌≡◌, ◌++◌, drop}
use Rattle.std.specs.Prelude.{filter}
use Rattle.js_follow.specs.Joining.{is_newer}
use Rattle.js_follow.proofs.joining.add_newer.Given as goal

-- the cells so far, before the newer ones of those that are left
abbrev pub invariant-loop-cell : goal.invariant-loop-cell
invariant-loop-cell l =
    l.joint.items ++ filter (is_newer l.known l.theirs) (drop l.cell-index l.own) ≡ l.fn.joint.items ++ filter (is_newer l.known l.theirs) l.own
