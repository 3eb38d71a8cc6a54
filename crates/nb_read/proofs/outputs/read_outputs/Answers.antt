use Rattle.std.proofs.Common.{List, sym, subst}
use Rattle.nb_doc.specs.declared.notebook.Output.{Output}
use Rattle.nb_doc.specs.TextForms.{IsOutputOf, Members}
use Rattle.nb_read.specs.Lent.{items_data}
use Rattle.nb_read.proofs.outputs.read_outputs.Goals as goal

pub returns : goal.returns
returns c =
    let items = items_data c.in_ok-items.items.now.items in
    record {
      items = items;
      has_items = c.in_ok-items.ensures;
      members = subst (λ (found : List Output). Members IsOutputOf items found) (sym c.new.ensures) c.in_ok-found.ensures;
    }
