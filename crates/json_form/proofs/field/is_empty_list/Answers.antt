use Rattle.std.proofs.Common.{sym, ◌∙◌, ap, length, ◌==◌}
use Rattle.serde_json.proofs.Views.{view-Array}
use Rattle.json_form.proofs.WholeParts.{is_some_if_no_items}
use Rattle.json_form.proofs.field.is_empty_list.Goals as goal

pub returns-in-Array : goal.returns-in-Array
returns-in-Array c = rw (c.in-Array.is, view-Array) (c.is_empty.ensures ∙ ap (λ xs. length xs == 0) c.as_slice.ensures.value ∙ sym (is_some_if_no_items c.in-Array.items.items))
