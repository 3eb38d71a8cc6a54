use Rattle.std.proofs.Common.{◌≡◌, false}
use Rattle.std.specs.Vec.Iter.{into_iter_items}
use Rattle.serde_json.specs.View.{items_view}
use Rattle.serde_json.specs.Written.{items_have_float}
use Rattle.json_form.specs.Forms.{each, with_front}
use Rattle.nb_doc.specs.Fields.{draft_of}
use Rattle.nb_doc.proofs.fields.cells.Given as goal

-- the cells so far, before those that are left, are those of the list
abbrev pub invariant-loop-item : goal.invariant-loop-item
invariant-loop-item l = record {
  read : with_front l.found.items (each (draft_of l.age) (items_view (into_iter_items l.item-iterator))) ≡ each (draft_of l.age) (items_view l.fn.items.items);
  whole : items_have_float (items_view (into_iter_items l.item-iterator)) ≡ false;
}
