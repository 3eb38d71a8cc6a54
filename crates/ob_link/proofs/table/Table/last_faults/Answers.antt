use Rattle.std.proofs.Common.{sym, ◌∙◌, ap}
use Rattle.ob_link.specs.Faults.{all_none}
use Rattle.ob_link.proofs.Faults.{row_none}
use Rattle.ob_link.proofs.table.Table.last_faults.Goals as goal

pub returns-then-no_fault : goal.returns-then-no_fault
returns-then-no_fault c =
    row_none c.args.self.now c.in_ok-first.first.items c.in_ok-first.ensures
    (sym (c.no_fault.ensures ∙ ap all_none c.as_slice.ensures.value) ∙ c.if-no_fault.true)
