use Rattle.std.proofs.Common.{◌≡◌, suc, ap, sym, ◌∙◌, arith}
use Rattle.ob_types.specs.Forms.{type_of}
use Rattle.ob_types.specs.Sizes.{size_of, record_size}
use Rattle.ob_types.proofs.Measures.{fields_fall}
use Rattle.ob_mean.specs.declared.shape.Shape.TheVariants as shape
use Rattle.ob_check_kinds.specs.Shapes.{shape_of}
use Rattle.ob_check_kinds.proofs.ShapeForms.{shape_array}
use Rattle.ob_check_kinds.proofs.shapes.+shapes.Goals as goal

pub shape_of-keep-requires : goal.shape_of-keep-requires
shape_of-keep-requires t c =
    c.in_ok-array-in-Array.ensures
    ∙ ap (λ s. shape.Array c.in-Array.length s) (c.in_ok-element-in-Array.ensures ∙ ap shape_of c.get.ensures)
    ∙ sym (ap shape_of (sym c.form.ensures.whole ∙ ap type_of c.in-Array.is) ∙ shape_array c.in-Array.length c.in-Array.element)

pub shape_of-shapes_in-requires : goal.shape_of-shapes_in-requires
shape_of-shapes_in-requires t c =
    let whole : size_of c.args.of.now ≡ suc (record_size c.in-Record.record) = ap size_of (sym c.form.ensures.whole ∙ ap type_of c.in-Record.is) in
    omega (arith, fields_fall c.get-in-Record.result.now c.fields.result.now c.fields.ensures, ap record_size c.get-in-Record.ensures, whole, c.decreases)
