use Rattle.std.proofs.Common.{ap, ◌∙◌, sym, Some}
use Rattle.ob_mean.specs.Measured.{shape_of}
use Rattle.ob_mean.specs.WellFormed.{Of, shape_object, element_shape}
use Rattle.ob_gen.proofs.emitting.Known.{array_element}
use Rattle.ob_gen.proofs.known.element_in.Goals as goal

pub returns-in-Array : goal.returns-in-Array
returns-in-Array c =
    ap (λ s. Some (Of s)) c.get.ensures ∙ sym (ap shape_object (array_element c.in-Array.field-0 c.in-Array.element)) ∙ ap (λ s. shape_object (element_shape s)) (sym (ap shape_of c.in-Array.is) ∙ c.form.ensures)
