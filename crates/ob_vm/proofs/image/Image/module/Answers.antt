use Rattle.std.proofs.Common.{◌≡◌, Some, ap, sym, ◌∙◌}
use Rattle.std.specs.Prelude.{slice_get}
use Rattle.ob_code.specs.Machine.{Code}
use Rattle.ob_vm.proofs.image.Image.module.Goals as goal

pub returns-clause-measured : goal.returns-clause-measured
returns-clause-measured c =
    let there : slice_get c.args.self.now.code c.args.home ≡ Some c.module.result.now = ap (λ (m : Code). slice_get m c.args.home) (sym c.modules.ensures.value) ∙ c.module.ensures in
    c.modules.ensures.measured c.args.home c.module.result.now there c.requires.1
