use Rattle.std.proofs.Common.{◌++◌, map, ap, ◌∙◌}
use Rattle.std.specs.Vec.Iter.{into_iter_items}
use Rattle.nb_record.proofs.Follow.{put_step}
use Rattle.js_follow.specs.Joining.{joint_cell}
use Rattle.js_follow.proofs.joining.their_cells.Goals as goal

pub loop-cell-preserved : goal.loop-cell-preserved
loop-cell-preserved c =
    let f = joint_cell c.args.known.now c.args.own.now in
    ap (λ cells. cells ++ map f (into_iter_items c.next.new.self)) c.in_ok-push.ensures.items
    ∙ put_step f c.loop-cell.joint.items _ c.in_ok-kept.kept c.in-Some.cell (into_iter_items c.loop-cell.cell-iterator) (into_iter_items c.next.new.self) c.in_ok-kept.ensures c.in-Some.ensures.steps.0 c.loop-cell.invariant
