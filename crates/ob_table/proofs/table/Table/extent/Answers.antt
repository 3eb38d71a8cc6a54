use Rattle.std.proofs.Common.{◌∙◌, arith, length, ◌<◌, ◌≤◌}
use Rattle.ob_table.proofs.Tables.{looked, looked_past}
use Rattle.ob_table.proofs.table.Table.extent.Goals as goal

pub returns-then-number-len : goal.returns-then-number-len
returns-then-number-len c =
    let n : c.args.number < length c.self.inside.extents.items = omega (arith, c.if-number-len.true, c.len.ensures, c.self.inside.extents.ok.0) in
    c.index.ensures ∙ looked c.self.inside.extents.items _ _ _ _ c.self.invariant c.self.view_is n

pub returns-else-number-len : goal.returns-else-number-len
returns-else-number-len c =
    let n : length c.self.inside.extents.items ≤ c.args.number = omega (arith, c.if-number-len.false, c.len.ensures, c.self.inside.extents.ok.0) in
    looked_past c.self.inside.extents.items _ _ _ c.self.invariant c.self.view_is n
