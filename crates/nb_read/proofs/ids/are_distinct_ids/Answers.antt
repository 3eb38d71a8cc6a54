use Rattle.std.proofs.Common.{◌+◌, ◌||◌, ◌≡◌, List, ℕ, false, cond, length, sym, ap, ◌∙◌, subst}
use Rattle.std.proofs.lemmas.Bool.{not-true}
use Rattle.std.specs.Str.{bytes_eq}
use Rattle.nb_doc.specs.Documents.{ids}
use Rattle.nb_doc.specs.Ids.{is_among}
use Rattle.nb_doc.proofs.Distinct.{IsReading, begins}
use Rattle.nb_read.proofs.Own.{more_cells}
use Rattle.nb_read.proofs.ids.are_distinct_ids.Goals as goal

pub loop-cell-init : goal.loop-cell-init
loop-cell-init c =
    let P : List (List ℕ) → Type 0 = λ n. IsReading n (ids c.args.cells.now) (ids c.args.cells.now) in
    subst P (sym c.empty-names.ensures) (begins (ids c.args.cells.now))

pub loop-cell-preserved : goal.loop-cell-preserved
loop-cell-preserved c =
    let id = c.cell-item.result.id in
    let named : c.as_str.result.now ≡ id = c.as_str.ensures in
    let new : is_among c.loop-cell.names id ≡ false = ap (is_among c.loop-cell.names) (sym named) ∙ not-true _ (sym c.in_ok-add.ensures.new ∙ c.if-not-branch.false) in
    more_cells c.loop-cell.names c.add.new.self c.args.cells.now c.loop-cell.cell-index c.cell-item.result c.loop-cell.invariant c.loop-cell-test.true c.cell-item.is new
    (λ q. c.in_ok-add.ensures.members q ∙ ap (λ b. bytes_eq q b || is_among c.loop-cell.names q) named)
    (c.in_ok-add.ensures.len ∙ ap (λ b. length c.loop-cell.names + cond b 1 0) c.if-not-branch.false)
