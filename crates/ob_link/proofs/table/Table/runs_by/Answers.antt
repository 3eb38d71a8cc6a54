use Rattle.std.proofs.Common.{◌≡◌, sym, ◌∙◌, ap, subst}
use Rattle.std.specs.Prelude.{IfOk}
use Rattle.ob_link.specs.Faults.{all_none}
use Rattle.ob_link.proofs.Faults.{all_link}
use Rattle.ob_link.proofs.table.Table.runs_by.Goals as goal

pub returns-then-no_fault : goal.returns-then-no_fault
returns-then-no_fault c =
    let ms = c.args.self.now in
    let none = sym (c.no_fault.ensures ∙ ap all_none c.requires) ∙ c.if-no_fault.true in
    subst (λ x. IfOk c.all_run.result (λ row. row.items ≡ x)) (sym (all_link ms none)) c.all_run.ensures
