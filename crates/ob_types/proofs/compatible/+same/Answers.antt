use Rattle.std.proofs.Common.{◌<◌, ◌≤◌, ◌&&◌, length, get_or, rules, subst, sym, ap, ◌∙◌, arith}
use Rattle.std.specs.Cmp.Lexicographic.{pointwise}
use Rattle.ob_types.specs.Types.{same, same_field}
use Rattle.ob_types.specs.declared.structure.ObType.TheVariants.{Array, Open}
use Rattle.ob_types.specs.declared.structure.RecordType.{out-RecordType}
use Rattle.ob_types.specs.Forms.{type_of}
use Rattle.ob_types.proofs.Equations.{same_array, same_open, equal, unequal, apart_array, apart_open}
use Rattle.ob_types.specs.Spelling.{AreAlike, AreEnds, AreWithin}
use Rattle.ob_types.proofs.Measures.{field_falls, fields_fall}
use Rattle.ob_types.proofs.FieldEnds.{all_looked, alike_long, all_same, among_at, ends_more, ends_same, enough, fields_same, looked_at, refuse_at, spelled_equal, spelled_unequal}
use Rattle.ob_types.proofs.compatible.+same.Goals as goal

pub same-returns-then-n-m : goal.same-returns-then-n-m
same-returns-then-n-m t c =
    c.same.ensures
    ∙ ap (λ a. same a c.get-then-n-m.result.now) c.get.ensures
    ∙ ap (same c.in-Array-Array.x) c.get-then-n-m.ensures
    ∙ ap (λ b. b && same c.in-Array-Array.x c.in-Array-Array.y) (equal c.in-Array-Array.n c.in-Array-Array.m c.if-n-m.true)
    ∙ sym (same_array c.in-Array-Array.n c.in-Array-Array.x c.in-Array-Array.m c.in-Array-Array.y)
    ∙ ap (λ b. same (Array c.in-Array-Array.n c.in-Array-Array.x) b) (ap type_of (sym c.in-Array-Array.is-1) ∙ c.form-2.ensures.whole)
    ∙ ap (λ a. same a c.args.right.now) (ap type_of (sym c.in-Array-Array.is-0) ∙ c.form.ensures.whole)

pub same-returns-else-n-m : goal.same-returns-else-n-m
same-returns-else-n-m t c =
    unequal c.in-Array-Array.n c.in-Array-Array.m (same c.in-Array-Array.x c.in-Array-Array.y) c.if-n-m.false
    ∙ sym (same_array c.in-Array-Array.n c.in-Array-Array.x c.in-Array-Array.m c.in-Array-Array.y)
    ∙ ap (λ b. same (Array c.in-Array-Array.n c.in-Array-Array.x) b) (ap type_of (sym c.in-Array-Array.is-1) ∙ c.form-2.ensures.whole)
    ∙ ap (λ a. same a c.args.right.now) (ap type_of (sym c.in-Array-Array.is-0) ∙ c.form.ensures.whole)

pub same-returns-in-Open-Open : goal.same-returns-in-Open-Open
same-returns-in-Open-Open t c =
    c.same-in-Open-Open.ensures
    ∙ ap (λ a. same a c.get-in-Open-Open-2.result.now) c.get-in-Open-Open.ensures
    ∙ ap (same c.in-Open-Open.x) c.get-in-Open-Open-2.ensures
    ∙ sym (same_open c.in-Open-Open.x c.in-Open-Open.y)
    ∙ ap (λ b. same (Open c.in-Open-Open.x) b) (ap type_of (sym c.in-Open-Open.is-1) ∙ c.form-2.ensures.whole)
    ∙ ap (λ a. same a c.args.right.now) (ap type_of (sym c.in-Open-Open.is-0) ∙ c.form.ensures.whole)

pub same-returns-in_default-2 : goal.same-returns-in_default-2
same-returns-in_default-2 t c =
    apart_array c.in_default.field-0-0 c.in_default.field-1-0 c.form-2.result.now c.in_default.not-Array-1
    ∙ ap (same (Array c.in_default.field-0-0 c.in_default.field-1-0)) c.form-2.ensures.whole
    ∙ ap (λ a. same a c.args.right.now) (ap type_of (sym c.in_default.is-0) ∙ c.form.ensures.whole)

pub same-returns-in_default-3 : goal.same-returns-in_default-3
same-returns-in_default-3 t c =
    apart_open c.in_default.field-0-0 c.form-2.result.now c.in_default.not-Open-1
    ∙ ap (same (Open c.in_default.field-0-0)) c.form-2.ensures.whole
    ∙ ap (λ a. same a c.args.right.now) (ap type_of (sym c.in_default.is-0) ∙ c.form.ensures.whole)

pub same_kept-bounds-left-number : goal.same_kept-bounds-left-number
same_kept-bounds-left-number t c =
    c.requires.within (get_or c.args.kept.now c.loop-number.number-index 0) (among_at c.args.kept.now c.loop-number.number-index c.loop-number-test.true)

pub same_kept-offset_bounds-left-number : goal.same_kept-offset_bounds-left-number
same_kept-offset_bounds-left-number t c =
    let within = c.requires.within (get_or c.args.kept.now c.loop-number.number-index 0) (among_at c.args.kept.now c.loop-number.number-index c.loop-number-test.true) in
    search (rules, within)

pub same_kept-bounds-right-number : goal.same_kept-bounds-right-number
same_kept-bounds-right-number t c =
    let within = c.requires.within (get_or c.args.kept.now c.loop-number.number-index 0) (among_at c.args.kept.now c.loop-number.number-index c.loop-number-test.true) in
    omega (arith, within, alike_long c.args.left.now c.args.right.now c.requires.alike)

pub same_kept-offset_bounds-right-number : goal.same_kept-offset_bounds-right-number
same_kept-offset_bounds-right-number t c =
    let within = c.requires.within (get_or c.args.kept.now c.loop-number.number-index 0) (among_at c.args.kept.now c.loop-number.number-index c.loop-number-test.true) in
    let also : get_or c.args.kept.now c.loop-number.number-index 0 < length c.args.right.now = omega (arith, within, alike_long c.args.left.now c.args.right.now c.requires.alike) in
    search (rules, also)

pub same_kept-same-requires : goal.same_kept-same-requires
same_kept-same-requires t c =
    let within = c.requires.within (get_or c.args.kept.now c.loop-number.number-index 0) (among_at c.args.kept.now c.loop-number.number-index c.loop-number-test.true) in
    let also : get_or c.args.kept.now c.loop-number.number-index 0 < length c.args.right.now = omega (arith, within, alike_long c.args.left.now c.args.right.now c.requires.alike) in (
      omega (
        arith,
        field_falls c.args.left.now (get_or c.args.kept.now c.loop-number.number-index 0) c.index-left-number.result c.of.result.now within c.index-left-number.is c.of.ensures,
        field_falls c.args.right.now (get_or c.args.kept.now c.loop-number.number-index 0) c.index-right-number.result c.of-in-loop-number.result.now also c.index-right-number.is c.of-in-loop-number.ensures,
        c.decreases,
      ),
      tt,
    )

pub same_kept-loop-number-preserved : goal.same_kept-loop-number-preserved
same_kept-loop-number-preserved t c =
    let left = c.args.left.now in
    let right = c.args.right.now in
    let kept = c.args.kept.now in
    let i = c.loop-number.number-index in
    let number = get_or kept i 0 in
    let f = c.index-left-number.result in
    let g = c.index-right-number.result in
    let within = c.requires.within number (among_at kept i c.loop-number-test.true) in
    let end = ends_same left right number f g c.requires.alike within
    (ap (λ x. same x.of (get_or right number g).of) (sym c.index-left-number.is) ∙ ap (λ y. same f.of y.of) (sym c.index-right-number.is)
    ∙ ap (λ t. same t g.of) (sym c.of.ensures) ∙ ap (same c.of.result.now) (sym c.of-in-loop-number.ensures) ∙ sym c.same.ensures ∙ c.if-not-same.false) in
    λ k is. looked_at kept i k left right c.loop-number-test.true end (c.loop-number.invariant k is)

pub same_kept-returns : goal.same_kept-returns
same_kept-returns t c =
    let left = c.args.left.now in
    let right = c.args.right.now in
    all_same left right c.requires.alike (c.requires.enough (λ k is. all_looked c.args.kept.now c.loop-number.number-index k left right (search rules) (c.loop-number.invariant k is)))

pub same_kept-returns-then-not-same : goal.same_kept-returns-then-not-same
same_kept-returns-then-not-same t c =
    let left = c.args.left.now in
    let right = c.args.right.now in
    let kept = c.args.kept.now in
    let i = c.loop-number.number-index in
    let number = get_or kept i 0 in
    let f = c.index-left-number.result in
    let g = c.index-right-number.result in
    let within = c.requires.within number (among_at kept i c.loop-number-test.true) in
    refuse_at left right number f g within (omega (arith, within, alike_long left right c.requires.alike))
    (ap (λ x. same x.of (get_or right number g).of) (sym c.index-left-number.is) ∙ ap (λ y. same f.of y.of) (sym c.index-right-number.is)
    ∙ ap (λ t. same t g.of) (sym c.of.ensures) ∙ ap (same c.of.result.now) (sym c.of-in-loop-number.ensures) ∙ sym c.same.ensures ∙ c.if-not-same.true)

pub same_each-bounds-right-i : goal.same_each-bounds-right-i
same_each-bounds-right-i t c =
    let within : c.loop-i.i < length c.args.left.now = search rules in
    omega (arith, within, alike_long c.args.left.now c.args.right.now c.requires.alike)

pub same_each-loop-i-preserved : goal.same_each-loop-i-preserved
same_each-loop-i-preserved t c =
    let left = c.args.left.now in
    let right = c.args.right.now in
    let i = c.loop-i.i in
    let f = c.index-left-i.result in
    let g = c.index-right-i.result in
    let within : i < length left = search rules in
    ends_more left right i c.loop-i.invariant (ends_same left right i f g c.requires.alike within
    (ap (λ x. same x.of (get_or right i g).of) (sym c.index-left-i.is) ∙ ap (λ y. same f.of y.of) (sym c.index-right-i.is)
    ∙ ap (λ t. same t g.of) (sym c.of.ensures) ∙ ap (same c.of.result.now) (sym c.of-in-loop-i.ensures) ∙ sym c.same.ensures ∙ c.if-not-same.false))

pub same_each-returns : goal.same_each-returns
same_each-returns t c =
    let enough : length c.args.left.now ≤ c.loop-i.i = search rules in
    all_same c.args.left.now c.args.right.now c.requires.alike (λ k lt. c.loop-i.invariant k (omega (arith, enough, lt)))

pub same_each-returns-then-not-same : goal.same_each-returns-then-not-same
same_each-returns-then-not-same t c =
    let left = c.args.left.now in
    let right = c.args.right.now in
    let i = c.loop-i.i in
    let f = c.index-left-i.result in
    let g = c.index-right-i.result in
    let within : i < length left = search rules in
    refuse_at left right i f g within (omega (arith, within, alike_long left right c.requires.alike))
    (ap (λ x. same x.of (get_or right i g).of) (sym c.index-left-i.is) ∙ ap (λ y. same f.of y.of) (sym c.index-right-i.is)
    ∙ ap (λ t. same t g.of) (sym c.of.ensures) ∙ ap (same c.of.result.now) (sym c.of-in-loop-i.ensures) ∙ sym c.same.ensures ∙ c.if-not-same.true)

pub same_record-same_kept-requires : goal.same_record-same_kept-requires
same_record-same_kept-requires t c =
    let left = c.args.left.now in
    let right = c.args.right.now in
    let xs = c.fields.result.now in
    let ys = c.fields-then-eq-2.result.now in
    let ends = subst (λ fs. AreEnds c.ends-ends.result.now fs) (sym c.fields.ensures) c.ends-ends.ensures in
    let others = subst (λ fs. AreEnds c.ends-others.result.now fs) (sym c.fields-then-eq-2.ensures) c.ends-others.ensures in
    let are = (spelled_equal left right c.spelling.result.now c.spelling-2.result.now c.spelling.ensures c.spelling-2.ensures (sym c.eq.ensures ∙ c.if-eq.true)).1 in
    let alike = subst (λ fs. AreAlike fs ys) (sym c.fields.ensures) (subst (λ gs. AreAlike (out-RecordType left).fields gs) (sym c.fields-then-eq-2.ensures) are) in (
      omega (arith, fields_fall left xs c.fields.ensures, fields_fall right ys c.fields-then-eq-2.ensures, c.decreases),
      (
        alike,
        (
          subst (λ ns. AreWithin ns xs) (sym c.as_slice-then-eq-2.ensures.value) ends.2,
          enough c.ends-ends.result.now c.ends-others.result.now c.as_slice.result.now c.as_slice-then-eq.result.now c.as_slice-then-eq-2.result.now xs ys
              alike ends others c.as_slice.ensures.value c.as_slice-then-eq.ensures.value (sym c.eq-then-eq.ensures ∙ c.if-eq-2.true) c.as_slice-then-eq-2.ensures.value,
        ),
      ),
    )

pub same_record-same_each-requires : goal.same_record-same_each-requires
same_record-same_each-requires t c =
    let left = c.args.left.now in
    let right = c.args.right.now in
    let are = (spelled_equal left right c.spelling.result.now c.spelling-2.result.now c.spelling.ensures c.spelling-2.ensures (sym c.eq.ensures ∙ c.if-eq.true)).1 in (
      omega (arith, fields_fall left c.fields-else-eq-2.result.now c.fields-else-eq-2.ensures, fields_fall right c.fields-else-eq-2-2.result.now c.fields-else-eq-2-2.ensures, c.decreases),
      subst (λ fs. AreAlike fs c.fields-else-eq-2-2.result.now) (sym c.fields-else-eq-2.ensures) (subst (λ gs. AreAlike (out-RecordType left).fields gs) (sym c.fields-else-eq-2-2.ensures) are),
    )

pub same_record-returns-then-eq-2 : goal.same_record-returns-then-eq-2
same_record-returns-then-eq-2 t c =
    let left = c.args.left.now in
    let right = c.args.right.now in
    let name = (spelled_equal left right c.spelling.result.now c.spelling-2.result.now c.spelling.ensures c.spelling-2.ensures (sym c.eq.ensures ∙ c.if-eq.true)).0 in
    c.same_kept.ensures
    ∙ ap (λ l. pointwise same_field l c.fields-then-eq-2.result.now) c.fields.ensures
    ∙ ap (pointwise same_field (out-RecordType left).fields) c.fields-then-eq-2.ensures
    ∙ fields_same left right name

pub same_record-returns-else-eq-2 : goal.same_record-returns-else-eq-2
same_record-returns-else-eq-2 t c =
    let left = c.args.left.now in
    let right = c.args.right.now in
    let name = (spelled_equal left right c.spelling.result.now c.spelling-2.result.now c.spelling.ensures c.spelling-2.ensures (sym c.eq.ensures ∙ c.if-eq.true)).0 in
    c.same_each.ensures
    ∙ ap (λ l. pointwise same_field l c.fields-else-eq-2-2.result.now) c.fields-else-eq-2.ensures
    ∙ ap (pointwise same_field (out-RecordType left).fields) c.fields-else-eq-2-2.ensures
    ∙ fields_same left right name

pub same_record-returns-else-eq : goal.same_record-returns-else-eq
same_record-returns-else-eq t c =
    spelled_unequal c.args.left.now c.args.right.now c.spelling.result.now c.spelling-2.result.now c.spelling.ensures c.spelling-2.ensures (sym c.eq.ensures ∙ c.if-eq.false)
