use Rattle.std.proofs.Common.{take}
use Rattle.ob_types.specs.Numbered as spec
use Rattle.ob_types.proofs.numbered.number_all.Given as goal

abbrev pub invariant-loop-exported : goal.invariant-loop-exported
invariant-loop-exported l = spec.AreNumbered l.kinds l.numbers (take l.exported-index l.exports)
