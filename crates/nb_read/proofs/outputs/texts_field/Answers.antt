use Rattle.std.proofs.Common.{List, ℕ, sym, subst}
use Rattle.nb_doc.specs.TextForms.{IsText, Members}
use Rattle.nb_read.specs.Lent.{items_data}
use Rattle.nb_read.proofs.outputs.texts_field.Goals as goal

pub returns : goal.returns
returns c =
    let items = items_data c.in_ok-items.items.now.items in
    record {
      items = items;
      has_items = c.in_ok-items.ensures;
      members = subst (λ (found : List (List ℕ)). Members IsText items found) (sym c.new.ensures) c.in_ok-found.ensures;
    }
