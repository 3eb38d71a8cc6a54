use Rattle.std.proofs.Common.{sym, ap, ◌∙◌}
use Rattle.ob_mean.specs.Measured.{shape_of}
use Rattle.ob_mean.specs.Values.{row}
use Rattle.ob_mean.specs.Shapes.{zero_of}
use Rattle.ob_mean.proofs.Zeros.{array_zero}
use Rattle.ob_reference_store.proofs.zero.+zero.Goals as goal

pub zero_of-returns-in_ok-equal_row-in-Array : goal.zero_of-returns-in_ok-equal_row-in-Array
zero_of-returns-in_ok-equal_row-in-Array t c =
    c.in_ok-equal_row-in-Array.ensures ∙ ap (row c.in-Array.length) (c.in_ok-zero-in-Array.ensures ∙ ap zero_of c.get.ensures) ∙ sym (array_zero c.in-Array.length c.in-Array.element) ∙ ap zero_of (sym (ap shape_of c.in-Array.is) ∙ c.form.ensures)
