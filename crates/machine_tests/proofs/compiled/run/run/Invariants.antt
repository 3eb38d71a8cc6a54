use Rattle.ob_vm.specs.Images.{IsOf}
use Rattle.machine_tests.proofs.compiled.run.run.Given as goal

abbrev pub invariant-loop : goal.invariant-loop
invariant-loop l = IsOf l.image l.machine
