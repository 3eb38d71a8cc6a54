use Rattle.std.proofs.Common.{take}
use Rattle.ob_types.specs.Numbered as spec
use Rattle.ob_types.proofs.numbered.number_formals.Given as goal

abbrev pub invariant-loop-formal : goal.invariant-loop-formal
invariant-loop-formal l = spec.AreOf l.kinds l.numbers (spec.types_of (take l.formal-index l.formals)) × spec.Keeps l.initial.kinds l.kinds
