use Rattle.std.proofs.Common.{rules, ◌<◌, ◌∙◌, sym, refl, length}
use Rattle.std.proofs.lemmas.Option.{slice_get_read}
use Rattle.ob_types.proofs.Numbering.{take_same}
use Rattle.ob_types.proofs.SameType.{same_true}
use Rattle.ob_types.proofs.alike.same_below.Goals as goal

pub loop-i-preserved : goal.loop-i-preserved
loop-i-preserved c =
    let left = c.args.left.now in
    let right = c.args.right.now in
    let i = c.loop-i.i in
    let low : i < length left = search rules in
    let also : i < length right = search rules in
    take_same left right i c.index-left-i.result c.index-right-i.result
    (slice_get_read left (length left) i c.index-left-i.result refl low c.index-left-i.is)
    (slice_get_read right (length right) i c.index-right-i.result refl also c.index-right-i.is)
    (same_true c.index-left-i.result c.index-right-i.result (sym c.same.ensures ∙ c.if-not-same.false))
    c.loop-i.invariant
