use Rattle.std.proofs.Common.{◌≡◌, drop}
use Rattle.ob_types.specs.Numbered as spec
use Rattle.ob_types.proofs.alike.are_below.Given as goal

abbrev pub invariant-loop-number : goal.invariant-loop-number
invariant-loop-number l = spec.are_below l.most l.numbers ≡ spec.are_below l.most (drop l.number-index l.numbers)
