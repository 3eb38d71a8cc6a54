use Rattle.std.proofs.Common.{◌≡◌, true, List, None, length, sym, ◌∙◌, ap, subst}
use Rattle.ob_session.specs.Session.{Module, find_module}
use Rattle.ob_link.specs.Faults.{all_none, fault_row}
use Rattle.ob_link.specs.Places.{number_in}
use Rattle.ob_link.proofs.Places.{unplaced}
use Rattle.ob_link.proofs.modules.Modules.is_apart.Goals as goal

pub returns-in-None : goal.returns-in-None
returns-in-None c = λ none.
    let name = c.args.name.now in
    let unknown : number_in c.self.inside.table name ≡ None = sym c.number_of.ensures ∙ c.in-None.is in record {
      new = subst (λ (ms : List Module). find_module ms name ≡ None) c.self.view_is (unplaced c.self.inside.table name unknown).1;
      link = subst (λ (ms : List Module). all_none (fault_row ms (length ms)) ≡ true) c.self.view_is
          (sym (c.no_fault.ensures ∙ ap all_none (c.as_slice.ensures.value ∙ c.self.invariant.0)) ∙ none);
    }
