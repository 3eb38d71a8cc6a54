use Rattle.std.proofs.Common.{◌≡◌}
use Rattle.ob_mean.specs.WellFormed.{base_object}
use Rattle.ob_gen.specs.Known.{object_seen}
use Rattle.ob_gen.proofs.known.base_of.Given as goal

abbrev pub invariant-loop-level : goal.invariant-loop-level
invariant-loop-level l = object_seen l.base ≡ base_object l.level (object_seen l.object)
