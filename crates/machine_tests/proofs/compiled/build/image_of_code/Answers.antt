use Rattle.std.proofs.Common.{rules, subst, sym}
use Rattle.machine_tests.proofs.Measured.{AllMeasured, measured_more, none_measured}
use Rattle.machine_tests.proofs.compiled.build.image_of_code.Goals as goal

pub linked-requires : goal.linked-requires
linked-requires c = subst AllMeasured (sym c.in_ok-push.ensures.items) (measured_more _ _ (none_measured _ (search rules)) c.in_ok-code.ensures)
