use Rattle.std.proofs.Common.{ap, sym, ◌∙◌}
use Rattle.ob_types.specs.Forms.{type_of}
use Rattle.ob_mean.specs.declared.module.Parameter.TheVariants as parameter
use Rattle.ob_check_kinds.specs.Shapes.{shape_of, parameter_of}
use Rattle.ob_check_kinds.proofs.ShapeForms.{parameter_open}
use Rattle.ob_check_kinds.proofs.shapes.parameter_of.Goals as goal

pub returns-in_ok-shape_of-in-Open : goal.returns-in_ok-shape_of-in-Open
returns-in_ok-shape_of-in-Open c =
    ap parameter.Open (c.in_ok-shape_of-in-Open.ensures ∙ ap shape_of c.get.ensures)
    ∙ sym (ap (parameter_of c.args.kind) (sym c.form.ensures.whole ∙ ap type_of c.in-Open.is) ∙ parameter_open c.args.kind c.in-Open.element)
