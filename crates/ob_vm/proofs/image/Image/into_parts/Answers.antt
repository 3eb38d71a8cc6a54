use Rattle.std.proofs.Common.{subst}
use Rattle.ob_code.specs.Linked.{runs_of}
use Rattle.ob_vm.specs.Images.{ImageState, AreMeasured}
use Rattle.ob_vm.proofs.image.Image.into_parts.Goals as goal

pub returns-clause-measured : goal.returns-clause-measured
returns-clause-measured c = subst (λ (i : ImageState). AreMeasured i.code (runs_of i.may_run)) c.self.view_is c.self.invariant.3
