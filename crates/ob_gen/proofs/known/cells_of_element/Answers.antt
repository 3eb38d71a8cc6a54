use Rattle.std.proofs.Common.{ap, ◌∙◌, sym}
use Rattle.ob_mean.specs.Measured.{shape_of}
use Rattle.ob_mean.specs.Values.{size}
use Rattle.ob_mean.specs.Shapes.{zero_of}
use Rattle.ob_mean.specs.WellFormed.{element_shape}
use Rattle.ob_gen.specs.Code.{zero_element}
use Rattle.ob_gen.proofs.emitting.Known.{array_element}
use Rattle.ob_gen.proofs.known.cells_of_element.Goals as goal

pub returns-in-Array : goal.returns-in-Array
returns-in-Array c =
    c.cells.ensures
    ∙ ap (λ s. size (zero_of s)) c.get.ensures
    ∙ sym (ap (λ o. size (zero_element o)) (array_element c.in-Array.field-0 c.in-Array.element))
    ∙ ap (λ s. size (zero_element (element_shape s))) (sym (ap shape_of c.in-Array.is) ∙ c.form.ensures)
