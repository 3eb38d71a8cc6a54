use Rattle.std.proofs.Common.{rules, ◌≡◌, ◌<◌, ◌∙◌, sym, subst, refl, length, true}
use Rattle.std.proofs.lemmas.Option.{slice_get_read}
use Rattle.ob_types.specs.Numbered.{are_below}
use Rattle.ob_types.proofs.Numbering.{next_same, renamed, rows_length}
use Rattle.ob_types.proofs.numbered.NumberedExports.same_before.Goals as goal

pub loop-i-preserved : goal.loop-i-preserved
loop-i-preserved c =
    let left = c.as_slice-left.result.now in
    let right = c.as_slice-right.result.now in
    let numbers = c.as_slice-numbers.result.now in
    let others = c.as_slice-others.result.now in
    let kinds = c.as_slice.result.now in
    let more = c.as_slice-2.result.now in
    let i = c.loop-i.i in
    let low : i < length left = search rules in
    let also : i < length right = search rules in
    let one = renamed c.self.inside.kinds kinds c.self.inside.numbers numbers c.self.inside.exports left c.as_slice.ensures c.as_slice-numbers.ensures c.as_slice-left.ensures c.self.invariant in
    let two = renamed c.other.inside.kinds more c.other.inside.numbers others c.other.inside.exports right c.as_slice-2.ensures c.as_slice-others.ensures c.as_slice-right.ensures c.other.invariant in
    let ns = c.index-numbers-i.result in
    let ms = c.index-others-i.result in
    let equal : ns ≡ ms = sym c.as_slice-in-loop-i.ensures ∙ c.alike.ensures.numbers c.if-not-alike.false ∙ c.as_slice-in-loop-i-2.ensures in
    let below : are_below c.same_below-common.result ns ≡ true = subst (λ l. are_below c.same_below-common.result l ≡ true) c.as_slice-in-loop-i.ensures (c.alike.ensures.below c.if-not-alike.false) in
    next_same kinds more numbers others left right one two c.same_below-common.result c.same_below-common.ensures i ns ms c.index-left-i.result c.index-right-i.result
    (slice_get_read numbers (length numbers) i ns refl (subst (λ n. i < n) (sym (rows_length kinds numbers left one)) low) c.index-numbers-i.is)
    (slice_get_read others (length others) i ms refl (subst (λ n. i < n) (sym (rows_length more others right two)) also) c.index-others-i.is)
    (slice_get_read left (length left) i c.index-left-i.result refl low c.index-left-i.is)
    (slice_get_read right (length right) i c.index-right-i.result refl also c.index-right-i.is)
    equal below (c.alike.ensures.same c.if-not-alike.false) c.loop-i.invariant
