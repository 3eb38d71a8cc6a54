use Rattle.std.proofs.Common.{◌≡◌, ℤ, List, reverse, false, sym, ◌∙◌, ap, subst, Some, int_cmp, int_lt, is_gt, to_z, of_z, to_z-of_z, w32}
use Rattle.ob_mean.specs.declared.statement.LabelRange.{LabelRange}
use Rattle.ob_check_stmt.specs.Labels.{is_free}
use Rattle.ob_check_stmt.specs.LabelIndex.{last_from}
use Rattle.ob_check_stmt.proofs.Ranges.{none_below, greatest_below, found_at_most, not_above, from_not_above}
use Rattle.ob_check_stmt.proofs.labels.Labels.has_none.Goals as goal

pub returns-in-Some : goal.returns-in-Some
returns-in-Some c =
    let ranges : List LabelRange = reverse c.self.inside.ranges.items in
    let x : LabelRange = record { first = c.args.first; last = c.args.last } in
    let bound : to_z w32 (of_z w32 c.args.last) ≡ c.args.last = to_z-of_z c.ranges.last in
    let key : ℤ = c.in-Some.field-0-0.now in
    let inside = c.range.ensures.in_range tt in
    let here = inside.3 _ _ c.in-Some.ensures.steps in
    let found : last_from ranges key ≡ Some c.in-Some.end.now = sym (c.self.invariant.1 key) ∙ here.1 in
    let below : is_gt (int_cmp key c.args.last) ≡ false = subst (λ k. is_gt (int_cmp key k) ≡ false) bound here.0.1 in
    c.is_below.ensures
    ∙ ap (λ k. int_lt c.in-Some.end.now k) (to_z-of_z c.ranges.first)
    ∙ sym (greatest_below ranges x key c.in-Some.end.now c.self.invariant.0 found (from_not_above key c.args.last below)
    (λ z m h e. found_at_most key z m (c.self.invariant.1 z ∙ e) (inside.4 _ _ c.in-Some.ensures.steps z (tt, subst (λ k. is_gt (int_cmp z k) ≡ false) (sym bound) (not_above z c.args.last h)))))
    ∙ ap (λ rs. is_free rs x) c.self.view_is

pub returns-in-None : goal.returns-in-None
returns-in-None c =
    let ranges : List LabelRange = reverse c.self.inside.ranges.items in
    let x : LabelRange = record { first = c.args.first; last = c.args.last } in
    let bound : to_z w32 (of_z w32 c.args.last) ≡ c.args.last = to_z-of_z c.ranges.last in
    let inside = c.range.ensures.in_range tt in
    sym (none_below ranges x c.self.invariant.0 (λ z h. sym (c.self.invariant.1 z) ∙ inside.5 c.in-None.ensures.steps.0 z (tt, subst (λ k. is_gt (int_cmp z k) ≡ false) (sym bound) (not_above z c.args.last h))))
    ∙ ap (λ rs. is_free rs x) c.self.view_is
