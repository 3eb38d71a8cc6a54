use Rattle.std.proofs.Common.{arith}
use Rattle.jk_core.proofs.Pended.{shown_length}
use Rattle.jk_core.proofs.pending.Pending.len.Goals as goal

pub returns : goal.returns
returns c =
    let len = c.len.ensures in
    let ok = c.self.inside.marks.ok in
    let all = shown_length c.self.inside.cell c.self.inside.marks.items in
    rw (← c.self.view_is) (omega arith)
