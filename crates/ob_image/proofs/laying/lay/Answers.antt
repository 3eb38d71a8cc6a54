use Rattle.std.proofs.Common.{rules, ◌≡◌, ◌<◌, ◌+◌, ◌∙◌, length, length-set, take, refl, ap, arith}
use Rattle.ob_code.specs.Linked.{all_cells}
use Rattle.ob_code.specs.Machine.{Code}
use Rattle.ob_image.proofs.Laid.{cells_more, cells_most, laid_before, laid_more}
use Rattle.ob_image.proofs.laying.lay.Goals as goal

pub loop-place-init : goal.loop-place-init
loop-place-init c =
    let same : c.deref.result.now ≡ c.args.code.now.items = search rules in
    record {
      next = c.cells_before-from.ensures ∙ ap (λ (code : Code). all_cells (take c.args.number code)) same;
      so_far = laid_before c.args.code.now.items c.args.number c.requires.laid;
      count = refl;
    }

pub overflow_add-from : goal.overflow_add-from
overflow_add-from c =
    let old = c.args.code.now.items in
    let so_far = c.loop-place.invariant in
    let lt : c.loop-place.place < length old = omega (arith, c.loop-place-test.true, c.len-place-end.ensures) in
    let more = cells_more old c.loop-place.code.items c.loop-place.place c.loop-place.from c.index_mut-module.result.now lt so_far.next so_far.so_far c.index_mut-module.ensures.value in
    let most = cells_most old (c.loop-place.place + 1) in
    omega (arith, more, most, c.requires.few)

pub loop-place-preserved : goal.loop-place-preserved
loop-place-preserved c =
    let old = c.args.code.now.items in
    let code = c.loop-place.code.items in
    let place = c.loop-place.place in
    let from = c.loop-place.from in
    let l = c.index_mut-module.result.now in
    let here = c.index_mut-module.ensures.value in
    let so_far = c.loop-place.invariant in
    let lt : place < length old = omega (arith, c.loop-place-test.true, c.len-place-end.ensures) in
    record {
      next = cells_more old code place from l lt so_far.next so_far.so_far here;
      so_far = laid_more old code place from l lt so_far.next so_far.so_far here;
      count = length-set _ _ _ ∙ so_far.count;
    }
