use Rattle.std.proofs.Common.{◌≡◌, List, sym, ◌∙◌, ap, length, true}
use Rattle.ob_session.specs.Session.{Module}
use Rattle.ob_link.specs.Faults.{fault_row, all_none}
use Rattle.ob_link.proofs.Runs.{found_links}
use Rattle.ob_link.proofs.modules.Modules.fault_inside.Goals as goal

pub returns-then-no_fault : goal.returns-then-no_fault
returns-then-no_fault c =
    let ms = c.args.self.now in
    let row = c.as_slice.ensures.value ∙ c.self.invariant.0 ∙ ap (λ (xs : List Module). fault_row xs (length xs)) c.self.view_is in
    let none : all_none (fault_row ms (length ms)) ≡ true = sym (c.no_fault.ensures ∙ ap all_none row) ∙ c.if-no_fault.true in
    found_links ms c.args.home.now c.args.found.now none c.requires
