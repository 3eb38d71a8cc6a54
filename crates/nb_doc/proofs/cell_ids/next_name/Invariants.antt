use Rattle.std.proofs.Common.{◌≡◌, ◌+◌, ℕ, List, length}
use Rattle.nb_doc.specs.Names.{IsNamer}
use Rattle.nb_doc.proofs.Free.{at}
use Rattle.nb_doc.proofs.cell_ids.next_name.Given as goal

-- each number that was passed has used up a name
abbrev pub invariant-loop-taken : goal.invariant-loop-taken
invariant-loop-taken l = record {
  sum : l.last + length l.taken ≡ l.fn.namer.last + length l.fn.namer.taken;
  names : (taken : List (List ℕ)) → IsNamer taken l.fn.namer → IsNamer taken (at l.taken l.last);
}

abbrev pub decreases-loop-taken : goal.decreases-loop-taken
decreases-loop-taken l = length l.taken
