use Rattle.std.proofs.Common.{◌≡◌, ◌++◌, map}
use Rattle.std.specs.Vec.Iter.{into_iter_items}
use Rattle.nb_record.specs.State.{running_in}
use Rattle.nb_record.specs.Steps.{put_cell}
use Rattle.nb_record.proofs.keeping.kept_cells.Given as goal

-- the cells so far, before those that are left, are those that are put
abbrev pub invariant-loop-cell : goal.invariant-loop-cell
invariant-loop-cell l =
    l.kept.items ++ map (put_cell l.still (running_in l.before) l.before.notebook.cells) (into_iter_items l.cell-iterator) ≡ map (put_cell l.still (running_in l.before) l.before.notebook.cells) l.fn.cells
