use Rattle.std.proofs.Common.{◌≡◌, ◌+◌, ◌*◌, drop, sum, map}
use Rattle.ob_check_module.specs.Procedures as spec
use Rattle.ob_check_module.proofs.procedure.+counting.Given as goal

abbrev pub decreases-counted : goal.decreases-counted
decreases-counted l = 2 * l.levels

abbrev pub decreases-all_counted : goal.decreases-all_counted
decreases-all_counted l = 2 * l.levels + 1

abbrev pub invariant-all_counted-loop-p : goal.invariant-all_counted-loop-p
invariant-all_counted-loop-p l = l.total + sum (map (spec.counted l.levels) (drop l.p-index l.list)) ≡ sum (map (spec.counted l.levels) l.list)
