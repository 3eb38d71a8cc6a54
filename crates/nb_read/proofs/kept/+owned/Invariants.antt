use Rattle.std.proofs.Common.{◌≡◌, false, drop, take, map}
use Rattle.serde_json.specs.Data.{no_members}
use Rattle.serde_json.specs.View.{view, items_view, members_view}
use Rattle.serde_json.specs.Written.{items_have_float, members_have_float}
use Rattle.nb_read.specs.Lent.{data_view, members_data}
use Rattle.nb_read.proofs.kept.+owned.Given as goal

-- the items so far are kept
abbrev pub invariant-owned_items-loop-item : goal.invariant-owned_items-loop-item
invariant-owned_items-loop-item l = record {
  kept : map view l.found.items ≡ map data_view (take l.item-index l.item-items);
  whole : items_have_float (items_view l.found.items) ≡ false;
}

-- the members that are left, put to those that are kept, are all
abbrev pub invariant-owned_members-loop-member : goal.invariant-owned_members-loop-member
invariant-owned_members-loop-member l = record {
  kept : members_data (drop l.member-index l.member-items) (members_view l.found.entries) ≡ members_data l.member-items no_members;
  whole : members_have_float (members_view l.found.entries) ≡ false;
}
