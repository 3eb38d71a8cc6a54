use Rattle.std.proofs.Common.{◌≡◌, ◌∙◌, ap, subst}
use Rattle.std.specs.Prelude.{IfOk}
use Rattle.ob_link.specs.Faults.{next_row}
use Rattle.ob_link.proofs.table.Table.first_faults.Goals as goal

pub returns : goal.returns
returns c =
    subst (λ x. IfOk c.next_faults.result (λ row. row.items ≡ x))
    (ap (next_row c.args.self.now) (c.as_slice.ensures.value ∙ c.new-none.ensures.items))
    c.next_faults.ensures
