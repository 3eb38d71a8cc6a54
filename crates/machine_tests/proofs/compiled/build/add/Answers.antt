use Rattle.std.proofs.Common.{subst, sym}
use Rattle.machine_tests.proofs.Measured.{AllMeasured, measured_more}
use Rattle.machine_tests.proofs.compiled.build.add.Goals as goal

pub returns : goal.returns
returns c = subst AllMeasured (sym c.in_ok-push.ensures.items) (measured_more c.args.modules.now.items _ c.requires c.in_ok-code.ensures)
