use Rattle.std.proofs.Common.{pos, w32, SFits, ◌++◌, ap, ◌∙◌, rules, arith}
use Rattle.std.proofs.lemmas.Int.{to_z-of_z}
use Rattle.ob_image.proofs.Begins.{put_more, text_all, text_more}
use Rattle.ob_image.proofs.opening.push_text.Goals as goal

pub loop-number-preserved : goal.loop-number-preserved
loop-number-preserved c =
    let count = c.args.count in
    let text = c.args.text.now in
    let number = c.loop-number.number in
    let fits : SFits w32 c.text_cell.result = search rules in
    let here = c.text_cell.ensures count (pos 0) (omega arith) in
    let pushed = simp to_z-of_z at c.in_ok-push_cell.ensures in
    put_more _ _ _ _ _ _ c.loop-number.invariant pushed (text_more count text number c.text_cell.result (omega arith) here)

pub returns : goal.returns
returns c = c.loop-number.invariant ∙ ap (λ l. c.args.cells.now.items ++ l) (text_all c.args.count c.args.text.now c.loop-number.number (omega arith))
