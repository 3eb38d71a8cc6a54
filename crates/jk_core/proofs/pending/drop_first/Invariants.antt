use Rattle.std.proofs.Common.{◌≡◌, ◌+◌, drop}
use Rattle.std.specs.VecDeque.{deque_capacity, deque_len}
use Rattle.jk_core.specs.Pended.{last_cell, shown_by}
use Rattle.jk_core.proofs.pending.drop_first.Given as goal

abbrev pub invariant-loop : goal.invariant-loop
invariant-loop l = record {
  shown : shown_by l.cell l.marks.items ≡ drop l.counter (shown_by l.initial.cell l.initial.marks.items);
  last : last_cell l.cell l.marks.items ≡ last_cell l.initial.cell l.initial.marks.items;
  fewer : deque_len l.marks + l.counter ≡ deque_len l.initial.marks;
  capacity : deque_capacity l.marks ≡ deque_capacity l.initial.marks;
}
