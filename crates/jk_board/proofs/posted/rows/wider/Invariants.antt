use Rattle.std.proofs.Common.{◌≡◌, ◌≤◌, take, vec_len, vec_capacity}
use Rattle.jk_board.specs.Rows.{flat, AreNumbered}
use Rattle.jk_board.proofs.posted.rows.wider.Given as goal

abbrev pub invariant-loop-part : goal.invariant-loop-part
invariant-loop-part g l = record {
  same : flat g.T.Holds.entries l.shared.items ≡ flat g.T.Holds.entries (take l.part-index l.rest);
  numbered : AreNumbered g.T.Holds.entries g.T.Holds.is_whole l.shared.items;
  count : vec_len l.shared ≡ l.part-index;
  room : l.size ≤ vec_capacity l.shared;
}
