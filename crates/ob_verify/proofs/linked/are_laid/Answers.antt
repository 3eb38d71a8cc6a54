use Rattle.std.proofs.Common.{arith, ◌≡◌, take, length, refl, ◌∙◌}
use Rattle.std.proofs.lemmas.Option.{slice_get_read}
use Rattle.ob_code.specs.Linked.{all_cells}
use Rattle.ob_code.proofs.Each.{each_more, stands_within}
use Rattle.ob_code.proofs.machine.Laid.{all_cells_more, laid_by_places, laid_at, cells_within}
use Rattle.ob_verify.proofs.linked.are_laid.Goals as goal

pub loop-place-preserved : goal.loop-place-preserved
loop-place-preserved c =
    let modules = c.args.modules.now in
    let place = c.loop-place.place in
    let here = slice_get_read modules (length modules) place c.index-modules-place.result refl c.loop-place-test.true c.index-modules-place.is in
    let more = all_cells_more modules place c.index-modules-place.result here in
    let sum = c.in-Some.ensures in (
      omega (arith, sum.1, more, c.loop-place.invariant.0),
      each_more (λ k m. m.cells ≡ all_cells (take k modules)) modules place c.index-modules-place.result c.loop-place-test.true c.index-modules-place.is c.loop-place.invariant.1 (c.if-module-from.false ∙ c.loop-place.invariant.0),
    )

pub returns-clause-laid : goal.returns-clause-laid
returns-clause-laid c = λ yes. laid_by_places 0 c.args.modules.now (λ k m e.
    let lt = stands_within c.args.modules.now k m e in
    let here = c.loop-place.invariant.1 k m (omega (arith, lt, c.loop-place-test.false)) e in omega (arith, here))

pub returns-then-module-from-clause-only : goal.returns-then-module-from-clause-only
returns-then-module-from-clause-only c = λ laid few.
    let modules = c.args.modules.now in
    let place = c.loop-place.place in
    let here = slice_get_read modules (length modules) place c.index-modules-place.result refl c.loop-place-test.true c.index-modules-place.is in
    let begins = laid_at 0 modules laid place c.index-modules-place.result here in
    absurd (c.if-module-from.true (omega (arith, begins, c.loop-place.invariant.0)))

pub returns-in-None-clause-only : goal.returns-in-None-clause-only
returns-in-None-clause-only c = λ laid few.
    let modules = c.args.modules.now in
    let place = c.loop-place.place in
    let here = slice_get_read modules (length modules) place c.index-modules-place.result refl c.loop-place-test.true c.index-modules-place.is in
    let within = cells_within modules place c.index-modules-place.result here in
    absurd (c.in-None.ensures (omega (arith, within, few, c.loop-place.invariant.0)))
