use Rattle.std.proofs.Common.{drop, ap, ◌∙◌, arith, Option}
use Rattle.jk_log.specs.declared.arrival.Arrival.{Arrival}
use Rattle.jk_core.specs.Pended.{last_cell, shown_by}
use Rattle.jk_core.proofs.Pended.{all_dropped, drop_next, first_left, last_left}
use Rattle.jk_core.proofs.pending.drop_first.Goals as goal

pub loop-preserved : goal.loop-preserved
loop-preserved c =
    let rest = c.pop_front.new.self.items in
    let one = c.in-Some.ensures.cases in
    record {
      shown = ap (λ (o : Option Arrival). shown_by o rest) c.pass.ensures ∙ first_left c.loop.cell c.loop.marks.items rest c.in-Some.pended c.in-Some.ensures.items
          ∙ ap (drop 1) c.loop.invariant.shown ∙ drop_next c.loop.counter (shown_by c.args.cell.now c.args.marks.now.items);
      last = ap (λ (o : Option Arrival). last_cell o rest) c.pass.ensures ∙ last_left c.loop.cell c.loop.marks.items rest c.in-Some.pended c.in-Some.ensures.items ∙ c.loop.invariant.last;
      fewer = omega (arith, one, c.loop.invariant.fewer);
      capacity = c.pop_front.ensures.capacity ∙ c.loop.invariant.capacity;
    }

pub returns-clause-shown : goal.returns-clause-shown
returns-clause-shown c =
    let count = c.min-count.ensures in
    let len = c.len.ensures in
    let test = c.loop-test.false in
    let end = c.loop.auto.counter-end in
    c.loop.invariant.shown ∙ all_dropped c.args.cell.now c.args.most c.loop.counter c.args.marks.now.items (omega arith)
