use Rattle.std.proofs.Common.{◌∙◌, refl, sym}
use Rattle.std.proofs.lemmas.Option.{none-some}
use Rattle.js_kernels.proofs.Hosting.{found_at}
use Rattle.js_kernels.proofs.Readings.{nowhere, read_at}
use Rattle.js_kernels.proofs.kernels.Kernels.is_read.Goals as goal

pub returns-in-Some : goal.returns-in-Some
returns-in-Some g c =
    let was = c.index.result.now in
    let ks = c.self.inside.hosted.items in
    let first = found_at ks c.as_slice.result.now c.args.id.now c.in-Some.place c.as_slice.ensures.value c.in-Some.ensures in
    read_at c.args.self.now ks c.in-Some.place was c.args.id.now c.is_read.result c.self.view_is first c.index.ensures c.is_read.ensures

-- no kernel was found
pub returns-in-None : goal.returns-in-None
returns-in-None g c = (
  λ yes place k found there. absurd (none-some place (sym (nowhere c.args.self.now c.self.inside.hosted.items c.as_slice.result.now c.args.id.now c.self.view_is c.as_slice.ensures.value c.in-None.ensures) ∙ found)),
  λ read. refl,
)
