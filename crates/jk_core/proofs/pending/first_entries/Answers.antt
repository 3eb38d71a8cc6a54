use Rattle.std.proofs.Common.{◌<◌, length, sym, ◌∙◌, arith}
use Rattle.jk_core.proofs.Pended.{all_shown, last_begun, last_same, made_more}
use Rattle.jk_core.proofs.pending.first_entries.Goals as goal
use Rattle.jk_core.proofs.pending.first_entries.Goals.{then-begins, else-begins}

pub loop-i-preserved : goal.loop-i-preserved
loop-i-preserved c =
    let ps = c.args.marks.now.items in
    let lt : c.loop-i.i < length ps = (let len = c.len.ensures in let count = c.min-count.ensures in let test = c.loop-i-test.true in omega arith) in
    let cell = c.args.cell.now in
    record {
      made = made_more cell _ _ c.loop-i.i ps c.index-pended.result.now c.loop-i.entries.items _ lt c.index-pended.ensures c.loop-i.invariant.made c.loop-i.invariant.last c.request_of-arrival.ensures c.in_ok-add_for.ensures;
      last = elim c.if-begins.branch [
        | then-begins w ↦ rw w.last-is (last_begun cell _ _ c.loop-i.i ps c.index-pended.result.now lt c.index-pended.ensures c.loop-i.invariant.last c.request_of-arrival.ensures (sym c.begins.ensures ∙ w.if-begins.true))
        | else-begins w ↦ rw w.last-is (last_same cell _ c.loop-i.i ps c.index-pended.result.now lt c.index-pended.ensures c.loop-i.invariant.last (sym c.begins.ensures ∙ w.if-begins.false))
      ];
    }

pub returns : goal.returns
returns c =
    let count = c.min-count.ensures in
    let len = c.len.ensures in
    let test = c.loop-i-test.false in
    let end = c.loop-i.auto.i-end in
    c.loop-i.invariant.made ∙ all_shown c.args.cell.now c.args.most c.loop-i.i c.args.marks.now.items (omega arith)
