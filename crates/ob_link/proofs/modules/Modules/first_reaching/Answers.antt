use Rattle.std.proofs.Common.{◌≡◌, Bool, List, ◌∙◌, ap, subst}
use Rattle.std.specs.Prelude.{IfOk}
use Rattle.ob_link.specs.Reaching.{next_reach_row}
use Rattle.ob_link.proofs.ReachRows.{reach_zero}
use Rattle.ob_link.proofs.modules.Modules.first_reaching.Goals as goal

pub returns : goal.returns
returns c =
    subst (λ (x : List Bool). IfOk c.next_reaching.result (λ row. row.items ≡ x))
    (ap (λ (r : List Bool). next_reach_row c.args.self.now r c.args.name.now) (c.as_slice.ensures.value ∙ c.new-none.ensures.items) ∙ reach_zero c.args.self.now c.args.name.now)
    c.next_reaching.ensures
