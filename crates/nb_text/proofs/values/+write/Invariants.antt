use Rattle.std.proofs.Common.{◌≡◌, List, ◌++◌, drop, false}
use Rattle.json.specs.Token.{Token}
use Rattle.serde_json.specs.View.{items_view, members_view}
use Rattle.serde_json.specs.Written.{items_have_float, members_have_float}
use Rattle.nb_text.specs.Tokens.{list_tokens, object_tokens}
use Rattle.nb_text.proofs.values.+write.Given as goal

-- what is written, before the tokens of what is left, is all of it
abbrev pub invariant-write_items-loop-item : goal.invariant-write_items-loop-item
invariant-write_items-loop-item g l = record {
  all : (g.W.Tokens.written l.out) ++ list_tokens (items_view (drop l.item-index l.item-items)) ≡ (g.W.Tokens.written l.initial.out) ++ list_tokens (items_view l.item-items);
  whole : items_have_float (items_view (drop l.item-index l.item-items)) ≡ false;
}

abbrev pub invariant-write_members-loop-key : goal.invariant-write_members-loop-key
invariant-write_members-loop-key g l = record {
  all : (g.W.Tokens.written l.out) ++ object_tokens (members_view l.key-iterator) ≡ (g.W.Tokens.written l.initial.out) ++ object_tokens (members_view l.members.entries);
  whole : members_have_float (members_view l.key-iterator) ≡ false;
}
