use Rattle.std.proofs.Common.{arith, length, ◌<◌}
use Rattle.ob_mean.proofs.Cells.{last_offset}
use Rattle.ob_mean.proofs.measured.record_cells.Goals as goal

pub returns : goal.returns
returns c =
    let n : 0 < length c.args.fields.now.shapes = omega (arith, c.if-count-eq0.false, c.len-count.ensures) in
    last_offset _ _ _ _ c.args.fields.now.shapes n c.requires c.len-count.ensures c.index.ensures
