use Rattle.std.proofs.Common.{◌≡◌, ◌||◌, ◌+◌, not, cond, length, List, ℕ, sym, ap, ap₂, ◌∙◌, subst}
use Rattle.std.specs.Str.{bytes_eq}
use Rattle.nb_doc.specs.Documents.{ids}
use Rattle.nb_doc.specs.Ids.{is_among}
use Rattle.nb_doc.proofs.Distinct.{IsReading, begins, more_cells}
use Rattle.nb_doc.proofs.cell_ids.ids_of.Goals as goal

pub loop-cell-init : goal.loop-cell-init
loop-cell-init c =
    let P : List (List ℕ) → Type 0 = λ n. IsReading n (ids c.args.cells.now) (ids c.args.cells.now) in
    subst P (sym c.empty-names.ensures) (begins (ids c.args.cells.now))

pub loop-cell-preserved : goal.loop-cell-preserved
loop-cell-preserved c =
    more_cells c.loop-cell.names c.add.new.self c.args.cells.now c.loop-cell.cell-index c.cell-item.result c.requires c.loop-cell.invariant c.loop-cell-test.true c.cell-item.is
    (λ q. c.in_ok-add.ensures.members q ∙ ap (λ b. bytes_eq q b || is_among c.loop-cell.names q) c.as_str.ensures)
    (c.in_ok-add.ensures.len ∙ ap (λ b. length c.loop-cell.names + cond b 1 0) (c.in_ok-add.ensures.new ∙ ap (λ s. not (is_among c.loop-cell.names s)) c.as_str.ensures))
