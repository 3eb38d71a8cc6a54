use Rattle.std.proofs.Common.{rules, ◌≡◌, ◌+◌, ◌++◌, [], ◌∷◌, sym, subst, refl, take, length}
use Rattle.std.proofs.lemmas.Option.{slice_get_read}
use Rattle.ob_types.specs.Numbered.{AreNumbered}
use Rattle.ob_types.proofs.Numbering.{names_more}
use Rattle.ob_types.proofs.numbered.number_all.Goals as goal

pub loop-exported-preserved : goal.loop-exported-preserved
loop-exported-preserved c =
    let exports = c.args.exports.now in
    let i = c.loop-exported.exported-index in
    let kinds = c.number_object.new.kinds in
    let more = c.in_ok-more.more in
    let pushed : c.push.new.self ≡ c.loop-exported.numbers ++ more ∷ [] = search rules in
    let there = slice_get_read exports (length exports) i c.exported-item.result refl c.loop-exported-test.true c.exported-item.is in
    subst (λ nss. AreNumbered kinds nss (take (i + 1) exports)) (sym pushed) (names_more c.loop-exported.kinds kinds c.loop-exported.numbers exports i more c.exported-item.result c.number_object.ensures.keeps c.loop-exported.invariant c.in_ok-more.ensures.numbers there)
