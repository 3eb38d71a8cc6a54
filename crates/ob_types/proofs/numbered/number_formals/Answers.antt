use Rattle.std.proofs.Common.{rules, ◌≡◌, ◌+◌, ◌++◌, [], ◌∷◌, sym, subst, refl, take, length}
use Rattle.std.proofs.lemmas.Option.{slice_get_read}
use Rattle.ob_types.specs.Numbered.{AreOf, types_of}
use Rattle.ob_types.proofs.Numbering.{formals_more}
use Rattle.ob_types.proofs.numbered.number_formals.Goals as goal

pub loop-formal-preserved : goal.loop-formal-preserved
loop-formal-preserved c =
    let formals = c.args.formals.now in
    let i = c.loop-formal.formal-index in
    let kinds = c.numbered.new.kinds in
    let number = c.in_ok-number.number in
    let pushed : c.push.new.self ≡ c.loop-formal.numbers ++ number ∷ [] = search rules in
    let there = slice_get_read formals (length formals) i c.formal-item.result refl c.loop-formal-test.true c.formal-item.is in (
      subst (λ ns. AreOf kinds ns (types_of (take (i + 1) formals))) (sym pushed) (formals_more c.loop-formal.kinds kinds c.loop-formal.numbers formals i number c.formal-item.result c.numbered.ensures.keeps c.loop-formal.invariant.0 c.in_ok-number.ensures.number there),
      (λ n t h. c.numbered.ensures.keeps n t (c.loop-formal.invariant.1 n t h)),
    )
