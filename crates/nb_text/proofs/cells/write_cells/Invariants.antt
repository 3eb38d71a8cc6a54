use Rattle.std.proofs.Common.{◌≡◌, ◌++◌, drop}
use Rattle.std.specs.List.{AllByRecursion}
use Rattle.nb_doc.specs.Writing.{cell_form}
use Rattle.nb_text.specs.Joined.{IsJoinedCell}
use Rattle.nb_text.proofs.Steps.{each_tokens}
use Rattle.nb_text.proofs.cells.write_cells.Given as goal

abbrev pub invariant-loop-cell : goal.invariant-loop-cell
invariant-loop-cell g l = record {
  all : (g.W.Tokens.written l.out) ++ each_tokens cell_form (drop l.cell-index l.cells) ≡ (g.W.Tokens.written l.initial.out) ++ each_tokens cell_form l.cells;
  joined : AllByRecursion IsJoinedCell (drop l.cell-index l.cells);
}
