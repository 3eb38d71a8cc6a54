use Rattle.std.proofs.Common.{arith, length, refl, sym, ◌∙◌}
use Rattle.std.proofs.lemmas.Option.{slice_get_read}
use Rattle.jk_core.proofs.Orders.{found_first, found_none, passed_next}
use Rattle.jk_core.proofs.script.next_cell.Goals as goal

pub loop-place-preserved : goal.loop-place-preserved
loop-place-preserved g c =
    let items = c.args.waiting.now.items in
    let there = slice_get_read items (length items) c.loop-place.place c.index.result.now refl (let len = c.len.ensures in let lt = c.loop-place-test.true in omega (arith, len, lt)) c.index.ensures in
    passed_next c.args.given c.loop-place.place items c.index.result.now there (sym c.is_due.ensures ∙ c.if-is_due.false) c.loop-place.invariant

pub returns-then-is_due-clause-found : goal.returns-then-is_due-clause-found
returns-then-is_due-clause-found g c =
    let items = c.args.waiting.now.items in
    let there = slice_get_read items (length items) c.loop-place.place c.index.result.now refl (let len = c.len.ensures in let lt = c.loop-place-test.true in omega (arith, len, lt)) c.index.ensures in
    found_first c.args.given c.loop-place.place items c.index.result.now there (sym c.is_due.ensures ∙ c.if-is_due.true) c.loop-place.invariant.none

pub returns-clause-found : goal.returns-clause-found
returns-clause-found g c =
    found_none c.args.given c.loop-place.place c.args.waiting.now.items (let len = c.len.ensures in let past = c.loop-place-test.false in omega (arith, len, past)) c.loop-place.invariant.none
