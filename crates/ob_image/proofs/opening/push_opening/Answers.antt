use Rattle.ob_image.proofs.Begins.{opening_image, put_more}
use Rattle.ob_image.proofs.opening.push_opening.Goals as goal

pub loop-variable-preserved : goal.loop-variable-preserved
loop-variable-preserved c =
    put_more _ _ _ _ _ _ c.loop-variable.invariant c.in_ok-push_variable.ensures
    (opening_image c.args.variables.now c.loop-variable.variable-index c.variable-item.result c.loop-variable-test.true c.variable-item.is)
