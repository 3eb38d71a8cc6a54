use Rattle.std.proofs.Common.{◌∙◌, ap, is_some}
use Rattle.js_kernels.proofs.Readings.{there_is}
use Rattle.js_kernels.proofs.kernels.Kernels.is_there.Goals as goal

pub returns : goal.returns
returns g c =
    c.is_some.ensures
    ∙ ap is_some (there_is c.args.self.now c.self.inside.hosted.items c.as_slice.result.now c.args.id.now c.place_of.result c.self.view_is c.as_slice.ensures.value c.place_of.ensures)
