use Rattle.std.proofs.Common.{sym, subst}
use Rattle.ob_vm.specs.Images as vm
use Rattle.ob_load.specs.Kept.{IsKept}
use Rattle.ob_load.proofs.Finished.{linked_by, measured_by}
use Rattle.ob_load.proofs.session.Session.of.Goals as goal

pub of-image-requires-clause-linked : goal.of-image-requires-clause-linked
of-image-requires-clause-linked c = linked_by c.args.modules c.args.known.items c.args.parts.0.items c.args.parts.1.items c.requires.kept.compiled c.requires.kept.runs

pub of-image-requires-clause-measured : goal.of-image-requires-clause-measured
of-image-requires-clause-measured c = measured_by c.args.modules c.args.known.items c.args.parts.0.items c.args.parts.1.items c.requires.kept.compiled c.requires.kept.runs

pub invariant_of-result : goal.invariant_of-result
invariant_of-result c = (
  subst (λ (x : vm.ImageState). IsKept c.args.modules c.args.known.items x) (sym c.of-image.ensures) c.requires.kept,
  c.requires.named,
)
