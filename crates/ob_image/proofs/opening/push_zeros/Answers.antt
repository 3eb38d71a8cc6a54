use Rattle.std.proofs.Common.{pos, ◌≡◌, ◌++◌, replicate, ap, ◌∙◌, sym, arith}
use Rattle.ob_mean.specs.Shapes.{zero_of}
use Rattle.ob_mean.specs.Values.{size}
use Rattle.ob_image.proofs.Begins.{put_more, zeros_image, zeros_more}
use Rattle.ob_image.proofs.opening.push_zeros.Goals as goal

pub loop-cell-preserved : goal.loop-cell-preserved
loop-cell-preserved c = put_more _ _ _ _ _ _ c.loop-cell.invariant c.in_ok-push_cell.ensures (zeros_more c.loop-cell._cell (pos 0))

pub returns : goal.returns
returns c =
    let all : c.loop-cell._cell ≡ size (zero_of c.args.shape.now) = omega arith in
    c.loop-cell.invariant
    ∙ ap (λ l. c.args.cells.now.items ++ l) (ap (λ k. replicate k (pos 0)) all ∙ sym (zeros_image c.args.shape.now))
