use Rattle.std.proofs.Common.{rules, ◌<◌, ◌∙◌, sym, ap, refl, length, Some}
use Rattle.std.proofs.lemmas.Option.{slice_get_read}
use Rattle.ob_types.proofs.SameType.{same_true}
use Rattle.ob_types.proofs.numbered.number_of.Goals as goal

pub returns-then-same : goal.returns-then-same
returns-then-same c =
    let kinds = c.args.kinds.now in
    let low : c.loop-number.number < length kinds = search rules in
    slice_get_read kinds (length kinds) c.loop-number.number c.index-kinds-number.result refl low c.index-kinds-number.is
    ∙ ap Some (same_true c.index-kinds-number.result c.args.of.now (sym c.same.ensures ∙ c.if-same.true))
