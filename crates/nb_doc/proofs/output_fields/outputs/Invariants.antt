use Rattle.std.proofs.Common.{◌≡◌, false, drop}
use Rattle.serde_json.specs.View.{items_view}
use Rattle.serde_json.specs.Written.{items_have_float}
use Rattle.json_form.specs.Forms.{each, with_front}
use Rattle.nb_doc.specs.Fields.{output_of}
use Rattle.nb_doc.proofs.output_fields.outputs.Given as goal

-- the outputs so far, before those that are left, are those of the list
abbrev pub invariant-loop-item : goal.invariant-loop-item
invariant-loop-item l = record {
  read : with_front l.found.items (each output_of (items_view (drop l.item-index l.item-items))) ≡ each output_of (items_view l.item-items);
  whole : items_have_float (items_view (drop l.item-index l.item-items)) ≡ false;
}
