use Rattle.std.proofs.Common.{◌≡◌, ◌≤◌, ◌+◌, ◌++◌, ◌^◌, ℕ, List, length}
use Rattle.std.specs.Vec.Iter.{into_iter_items}
use Rattle.nb_doc.specs.Ids.{standing, raised}
use Rattle.nb_doc.specs.Names.{IsNamer}
use Rattle.nb_doc.proofs.cell_ids.raise_cells.Given as goal

-- the cells so far, before those that are left, are those of the notebook
abbrev pub invariant-loop-draft : goal.invariant-loop-draft
invariant-loop-draft l = record {
  taken : List (List ℕ);
  names : IsNamer taken l.namer;
  bound : l.namer.last + length l.namer.taken ≤ 2 ^ 63 + length l.yielded;
  cells : l.cells.items ++ raised taken (into_iter_items l.draft-iterator) ≡ raised (standing l.fn.drafts) l.fn.drafts;
}
