use Rattle.std.proofs.Common.{◌++◌, map, ap, ◌∙◌}
use Rattle.std.specs.Vec.Iter.{into_iter_items}
use Rattle.nb_record.specs.State.{running_in}
use Rattle.nb_record.specs.Steps.{put_cell}
use Rattle.nb_record.proofs.Follow.{put_step}
use Rattle.nb_record.proofs.keeping.kept_cells.Goals as goal

pub loop-cell-preserved : goal.loop-cell-preserved
loop-cell-preserved c =
    let f = put_cell c.args.still.now (running_in c.args.before.now) c.args.before.now.notebook.cells in
    ap (λ cells. cells ++ map f (into_iter_items c.next.new.self)) c.in_ok-push.ensures.items
    ∙ put_step f c.loop-cell.kept.items _ c.in_ok-put.put c.in-Some.cell (into_iter_items c.loop-cell.cell-iterator) (into_iter_items c.next.new.self) c.in_ok-put.ensures c.in-Some.ensures.steps.0 c.loop-cell.invariant
