use Rattle.std.proofs.Common.{◌≡◌, length}
use Rattle.std.proofs.Math.Seq.{paste}
use Rattle.ob_code.specs.Machine.{text_cells}
use Rattle.ob_step.proofs.cells.put_text.Given as goal

abbrev pub invariant-loop-i : goal.invariant-loop-i
invariant-loop-i l = record {
  pasted : l.cells.items ≡ paste l.initial.cells.items l.a (text_cells l.n l.text) l.i;
  count : length l.cells.items ≡ length l.initial.cells.items;
}
