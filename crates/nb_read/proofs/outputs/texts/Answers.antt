use Rattle.std.proofs.Common.{◌+◌, List, ℕ, sym, subst, arith}
use Rattle.std.specs.declared.alloc.Global.{Global}
use Rattle.json.specs.declared.value.Value.{Value}
use Rattle.nb_doc.specs.TextForms.{Members, IsText}
use Rattle.nb_read.specs.Lent.{items_data}
use Rattle.nb_read.proofs.Lists.{Grows, begins, one_more, ends}
use Rattle.nb_read.proofs.outputs.texts.Goals as goal

pub loop-item-init : goal.loop-item-init
loop-item-init c = subst (λ (fs : List (List ℕ)). Grows IsText c.deref-item-items.result.now 0 fs) (sym c.in_ok-found.ensures.items) (begins IsText c.deref-item-items.result.now)

pub loop-item-preserved : goal.loop-item-preserved
loop-item-preserved c =
    let l = c.loop-item in
    let xs = c.deref-item-items.result.now in
    subst (λ (fs : List (List ℕ)). Grows IsText xs (l.item-index + 1) fs) (sym c.in_ok-push.ensures.items)
    (one_more IsText xs l.item-index c.item-item.result l.found.items c.in_ok-text.text l.invariant (omega arith) c.item-item.is c.in_ok-text.ensures)

pub returns : goal.returns
returns c =
    let l = c.loop-item in
    let xs = c.deref-item-items.result.now in
    subst (λ (vs : List (Value Global)). Members IsText (items_data vs) l.found.items) c.deref-item-items.ensures.value (ends IsText xs l.item-index l.found.items l.invariant (omega arith))
