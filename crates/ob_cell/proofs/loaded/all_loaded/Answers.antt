use Rattle.std.proofs.Common.{◌<◌, Bool, [], cond, length, List, ℕ, refl, sym, ◌∙◌, ap, arith, slice_get, subst, ◌≡◌, Some}
use Rattle.std.proofs.lemmas.List.{length-map}
use Rattle.std.proofs.lemmas.Option.{slice_get_read}
use Rattle.ob_session.specs.Session.{Module}
use Rattle.ob_session.specs.Reaches.{reached_by}
use Rattle.ob_link.specs.Reaching.{reaching}
use Rattle.ob_cell.proofs.Adding.{added_more, new_place}
use Rattle.ob_cell.proofs.loaded.all_loaded.Goals as goal

pub with_module-requires : goal.with_module-requires
with_module-requires c =
    let modules = c.args.modules.now in
    let number = c.loop-number.number in
    let there : slice_get c.as_slice-modules.result.now number ≡ Some c.index-modules-number.result =
    slice_get_read c.as_slice-modules.result.now (length c.as_slice-modules.result.now) number c.index-modules-number.result refl c.loop-number-test.true c.index-modules-number.is in
    let here : slice_get modules number ≡ Some c.index-modules-number.result = subst (λ (ms : List Module). slice_get ms number ≡ Some c.index-modules-number.result) c.as_slice-modules.ensures there in
    new_place modules c.args.name.now number c.index-modules-number.result c.loop-number.imports c.requires here c.loop-number.invariant

pub loop-number-preserved : goal.loop-number-preserved
loop-number-preserved c =
    let modules = c.args.modules.now in
    let number = c.loop-number.number in
    let flags = c.in_ok-reaching.reaching.items in
    let long = ap length c.in_ok-reaching.ensures ∙ length-map modules (reached_by modules c.args.name.now) ∙ ap length (sym c.as_slice-modules.ensures) in
    let within : number < length flags = omega (arith, long, c.loop-number-test.true) in
    let there : slice_get c.as_slice-modules.result.now number ≡ Some c.index-modules-number.result =
    slice_get_read c.as_slice-modules.result.now (length c.as_slice-modules.result.now) number c.index-modules-number.result refl c.loop-number-test.true c.index-modules-number.is in
    let here : slice_get modules number ≡ Some c.index-modules-number.result = subst (λ (ms : List Module). slice_get ms number ≡ Some c.index-modules-number.result) c.as_slice-modules.ensures there in
    let flag : slice_get flags number ≡ Some c.index.result.now = slice_get_read flags (length flags) number c.index.result.now refl within c.index.ensures in
    let reads : slice_get (reaching modules c.args.name.now) number ≡ Some c.index.result.now = subst (λ (bs : List Bool). slice_get bs number ≡ Some c.index.result.now) c.in_ok-reaching.ensures flag in
    let one = c.reached_name-reached.ensures ∙ ap (λ (l : List (List ℕ)). cond c.index.result.now l []) (c.as_slice.ensures.value ∙ c.in_ok-own.ensures) in
    added_more modules c.args.name.now number c.index-modules-number.result c.index.result.now c.reached_name-reached.result.now c.loop-number.imports c.in_ok-imports.imports c.requires here reads one c.loop-number.invariant c.in_ok-imports.ensures
