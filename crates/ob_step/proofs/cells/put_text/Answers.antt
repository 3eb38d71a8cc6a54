use Rattle.std.proofs.Common.{◌≡◌, ◌+◌, ◌<◌, pos, ◌++◌, length, take, drop, get_or, rules, arith, w32, SFits, sym, ap, ◌∙◌}
use Rattle.std.proofs.Math.ListN.{set}
use Rattle.std.proofs.Math.Seq.{paste}
use Rattle.std.proofs.lemmas.Int.{to_z-of_z}
use Rattle.std.proofs.lemmas.List.{length-set}
use Rattle.std.proofs.lemmas.List.Edits.{paste_more, paste_all}
use Rattle.ob_code.specs.Machine.{text_cells}
use Rattle.ob_code.proofs.machine.Rows.{text_cells_length}
use Rattle.ob_step.proofs.cells.put_text.Goals as goal

pub loop-i-preserved : goal.loop-i-preserved
loop-i-preserved c =
    let d = c.args.cells.now.items in
    let a = c.args.a in
    let i = c.loop-i.i in
    let s = text_cells c.args.n c.args.text.now in
    let v = c.text_cell.result in
    let f : SFits w32 v = search rules in
    let size = text_cells_length c.args.n c.args.text.now in
    let lt : a + i < length d = omega (arith, c.requires) in
    let inside : i < length s = omega (arith, size) in
    let here : get_or s i (pos 0) ≡ v = c.text_cell.ensures c.args.n (pos 0) c.loop-i-test.true in
    let pasted : set c.loop-i.cells.items (a + i) v ≡ paste d a s (i + 1) =
    ap (λ xs. set xs (a + i) v) c.loop-i.invariant.pasted ∙ ap (λ z. set (paste d a s i) (a + i) z) (sym here) ∙ paste_more d a s i (pos 0) lt inside in
    record { pasted = simp to_z-of_z pasted; count = simp to_z-of_z (length-set c.loop-i.cells.items (a + i) v ∙ c.loop-i.invariant.count) }

pub returns : goal.returns
returns c =
    let d = c.args.cells.now.items in
    let a = c.args.a in
    let i = c.loop-i.i in
    let s = text_cells c.args.n c.args.text.now in
    let size = text_cells_length c.args.n c.args.text.now in
    let all : i ≡ length s = omega (arith, size) in
    c.loop-i.invariant.pasted ∙ paste_all d a s i all ∙ ap (λ n. take a d ++ (s ++ drop (a + n) d)) all
