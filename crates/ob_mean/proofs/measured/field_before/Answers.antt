use Rattle.std.proofs.Common.{ap, ◌∙◌, arith, length, min, ◌<◌}
use Rattle.ob_mean.proofs.Cells.{offset_at}
use Rattle.ob_mean.proofs.measured.field_before.Goals as goal

pub returns : goal.returns
returns c =
    let n : 0 < length c.args.fields.now.shapes = omega (arith, c.if-count-eq0.false, c.len-count.ensures) in
    offset_at c.args.part _ _ _ _ c.args.fields.now.shapes n c.requires (c.min-2.ensures ∙ ap (λ k. min c.args.part k) c.len-count.ensures) c.index.ensures
