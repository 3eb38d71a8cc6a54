use Rattle.std.proofs.Common.{◌≡◌, ◌||◌, ◌&&◌, ℕ, List, drop}
use Rattle.nb_doc.specs.Ids.{is_among}
use Rattle.nb_record.specs.Book.{has_code}
use Rattle.nb_record.proofs.keeping.still_executed.Given as goal

-- the set has those of the cells so far
abbrev pub invariant-loop-cell : goal.invariant-loop-cell
invariant-loop-cell l = (id : List ℕ) → (is_among l.still id || (has_code (drop l.cell-index l.cells) id && is_among l.executed id)) ≡ (has_code l.cells id && is_among l.executed id)
