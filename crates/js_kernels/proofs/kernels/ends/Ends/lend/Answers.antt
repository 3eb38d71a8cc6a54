use Rattle.std.proofs.Common.{ap, sym}
use Rattle.js_kernels.specs.Hosting.{state_of, state_in}
use Rattle.js_kernels.proofs.kernels.ends.Ends.lend.Goals as goal

pub returns-in-Ok-lent-clause-place : goal.returns-in-Ok-lent-clause-place
returns-in-Ok-lent-clause-place g c =
    let own = c.in-Ok-lent.ensures.own in
    (state_of c.in-Some-take.home, ap state_in (sym c.in-Some-take.ensures.value), own.0, own.1, own.2, own.3)
