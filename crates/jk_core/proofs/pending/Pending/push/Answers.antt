use Rattle.std.proofs.Common.{ap, ◌∙◌}
use Rattle.jk_core.specs.Pended.{last_cell, shown_by}
use Rattle.jk_core.proofs.Pended.{last_more, shown_more}
use Rattle.jk_core.proofs.pending.Pending.push.Goals as goal

pub returns-clause-entries : goal.returns-clause-entries
returns-clause-entries c = rw (← c.self.view_is) (ap (shown_by c.self.inside.cell) c.add.ensures.items ∙ shown_more c.self.inside.cell c.self.inside.marks.items _)

pub returns-clause-cell : goal.returns-clause-cell
returns-clause-cell c = rw (← c.self.view_is) (ap (last_cell c.self.inside.cell) c.add.ensures.items ∙ last_more c.self.inside.cell c.self.inside.marks.items _)
