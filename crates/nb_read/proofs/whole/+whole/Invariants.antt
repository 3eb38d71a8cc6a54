use Rattle.std.proofs.Common.{◌≡◌, drop}
use Rattle.json.specs.Value.{items_view, members_view}
use Rattle.nb_read.specs.Lent.{are_whole, have_whole}
use Rattle.nb_read.proofs.whole.+whole.Given as goal

-- whether all are whole is whether those that are left are
abbrev pub invariant-are_whole-loop-item : goal.invariant-are_whole-loop-item
invariant-are_whole-loop-item l = are_whole (items_view (drop l.item-index l.item-items)) ≡ are_whole (items_view l.item-items)

abbrev pub invariant-have_whole-loop-member : goal.invariant-have_whole-loop-member
invariant-have_whole-loop-member l = have_whole (members_view (drop l.member-index l.member-items)) ≡ have_whole (members_view l.member-items)
