use Rattle.std.proofs.Common.{◌≡◌, ◌≤◌, ◌-◌, drop, length}
use Rattle.ob_mean.specs.Texts.{is_before}
use Rattle.ob_mean.proofs.arithmetic.is_before.Given as goal

abbrev pub invariant-loop-i : goal.invariant-loop-i
invariant-loop-i l = (l.i ≤ length l.first) × (l.i ≤ length l.second) × (is_before l.first l.second ≡ is_before (drop l.i l.first) (drop l.i l.second))

abbrev pub decreases-loop-i : goal.decreases-loop-i
decreases-loop-i l = length l.initial.first - l.i
