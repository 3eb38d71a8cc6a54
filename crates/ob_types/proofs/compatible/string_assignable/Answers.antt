use Rattle.std.proofs.Common.{◌&&◌, nat_lt, sym, ap, ◌∙◌}
use Rattle.ob_types.specs.Forms.{type_of}
use Rattle.ob_types.specs.Types.{is_char, string_assignable}
use Rattle.ob_types.proofs.Equations.{string_array, string_open}
use Rattle.ob_types.proofs.compatible.string_assignable.Goals as goal

pub returns-then-is_char : goal.returns-then-is_char
returns-then-is_char c =
    ap (λ b. b && nat_lt c.args.length c.in-Array.size) (sym c.if-is_char.true ∙ c.is_char.ensures ∙ ap is_char c.get.ensures)
    ∙ sym (string_array c.in-Array.size c.in-Array.element c.args.length)
    ∙ ap (λ t. string_assignable t c.args.length) (ap type_of (sym c.in-Array.is) ∙ c.form.ensures.whole)

pub returns-else-is_char : goal.returns-else-is_char
returns-else-is_char c =
    c.if-is_char.false
    ∙ ap (λ b. b && nat_lt c.args.length c.in-Array.size) (sym c.if-is_char.false ∙ c.is_char.ensures ∙ ap is_char c.get.ensures)
    ∙ sym (string_array c.in-Array.size c.in-Array.element c.args.length)
    ∙ ap (λ t. string_assignable t c.args.length) (ap type_of (sym c.in-Array.is) ∙ c.form.ensures.whole)

pub returns-in-Open : goal.returns-in-Open
returns-in-Open c =
    c.is_char-in-Open.ensures
    ∙ ap is_char c.get-in-Open.ensures
    ∙ sym (string_open c.in-Open.element c.args.length)
    ∙ ap (λ t. string_assignable t c.args.length) (ap type_of (sym c.in-Open.is) ∙ c.form.ensures.whole)
