use Rattle.std.proofs.Common.{◌≡◌, drop, string_bytes}
use Rattle.json_form.specs.Forms.{joined_items, with_front}
use Rattle.nb_read.specs.Lent.{items_data}
use Rattle.nb_read.proofs.fields.join.Given as goal

-- the text so far, before the texts that are left, is that of the list
abbrev pub invariant-loop-item : goal.invariant-loop-item
invariant-loop-item l = with_front (string_bytes l.text) (joined_items (items_data (drop l.item-index l.item-items))) ≡ joined_items (items_data l.item-items)
