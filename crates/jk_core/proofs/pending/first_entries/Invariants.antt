use Rattle.std.proofs.Common.{◌≡◌, take}
use Rattle.std.specs.Prelude.{option_copied}
use Rattle.jk_log.specs.Pending.{joined}
use Rattle.jk_core.specs.Pended.{last_cell, shown_by}
use Rattle.jk_core.proofs.pending.first_entries.Given as goal

abbrev pub invariant-loop-i : goal.invariant-loop-i
invariant-loop-i l = record {
  made : l.entries.items ≡ joined (shown_by l.cell (take l.i l.marks.items));
  last : option_copied l.last ≡ last_cell l.cell (take l.i l.marks.items);
}
