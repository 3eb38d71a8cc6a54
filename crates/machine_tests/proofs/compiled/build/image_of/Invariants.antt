use Rattle.machine_tests.proofs.Measured.{AllMeasured}
use Rattle.machine_tests.proofs.compiled.build.image_of.Given as goal

abbrev pub invariant-loop-module : goal.invariant-loop-module
invariant-loop-module l = AllMeasured l.modules.items
