use Rattle.machine_tests.proofs.Measured.{measured_at}
use Rattle.machine_tests.proofs.compiled.build.linked.Goals as goal

pub of-requires-clause-measured : goal.of-requires-clause-measured
of-requires-clause-measured c = λ home l e _. measured_at _ c.requires home l e
