use Rattle.std.proofs.Common.{◌≡◌, drop}
use Rattle.serde_json.specs.Find.{as_str}
use Rattle.serde_json.specs.View.{items_view}
use Rattle.json_form.specs.Forms.{each, of_kind, with_front}
use Rattle.nb_doc.proofs.output_fields.texts.Given as goal

-- the texts so far, before those that are left, are those of the list
abbrev pub invariant-loop-item : goal.invariant-loop-item
invariant-loop-item l = with_front l.found.items (each (λ e. of_kind (as_str e)) (items_view (drop l.item-index l.item-items))) ≡ each (λ e. of_kind (as_str e)) (items_view l.item-items)
