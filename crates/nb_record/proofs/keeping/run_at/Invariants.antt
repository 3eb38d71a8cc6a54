use Rattle.std.proofs.Common.{◌≡◌, drop}
use Rattle.nb_record.specs.Book.{run_in}
use Rattle.nb_record.proofs.keeping.run_at.Given as goal

-- what the run left is found among those that are left
abbrev pub invariant-loop-cell : goal.invariant-loop-cell
invariant-loop-cell l = run_in (drop l.cell-index l.cells) l.id ≡ run_in l.cells l.id
