use Rattle.std.proofs.Common.{◌≡◌, List, length, map, ◌∙◌, ap, subst}
use Rattle.std.specs.Prelude.{IfOk}
use Rattle.ob_session.specs.Session.{Module, link_fault}
use Rattle.ob_link.specs.Faults.{next_row}
use Rattle.ob_link.proofs.Faults.{row_next}
use Rattle.ob_link.proofs.modules.Modules.faults.Goals as goal

pub returns : goal.returns
returns c =
    let ms = c.self.inside.table in
    subst (λ x. IfOk c.next_faults.result (λ row. row.items ≡ x))
    (ap (next_row ms) (c.as_slice.ensures.value ∙ c.self.invariant.0) ∙ row_next ms (length ms)
    ∙ ap (λ (xs : List Module). map (λ (m : Module). link_fault xs m.imports) xs) c.self.view_is)
    c.next_faults.ensures
