use Rattle.std.proofs.Common.{◌≡◌, take}
use Rattle.ob_types.proofs.copies.copy_formals.Given as goal

abbrev pub invariant-loop-formal : goal.invariant-loop-formal
invariant-loop-formal l = l.copies ≡ take l.formal-index l.formals
