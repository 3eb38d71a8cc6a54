use Rattle.std.proofs.Common.{◌≡◌, List, ◌∙◌, ap, subst}
use Rattle.std.specs.Prelude.{IfOk}
use Rattle.ob_session.specs.Session.{Module}
use Rattle.ob_session.specs.Session as session
use Rattle.ob_link.specs.Faults.{fault_in}
use Rattle.ob_link.proofs.Faults.{row_links}
use Rattle.ob_link.proofs.modules.Modules.link_fault.Goals as goal

pub returns : goal.returns
returns c =
    let ms = c.self.inside.table in
    let is = c.args.imports.now in
    subst (λ x. IfOk c.first_fault.result (λ f. f ≡ x))
    (ap (λ row. session.first_fault (fault_in ms row) is) (c.as_slice.ensures.value ∙ c.self.invariant.0)
    ∙ row_links ms is ∙ ap (λ (xs : List Module). session.link_fault xs is) c.self.view_is)
    c.first_fault.ensures
