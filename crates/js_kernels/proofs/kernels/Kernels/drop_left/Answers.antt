use Rattle.js_kernels.proofs.Readings.{more_gone, none_gone}
use Rattle.js_kernels.proofs.kernels.Kernels.drop_left.Goals as goal

pub loop-place-init : goal.loop-place-init
loop-place-init g c = none_gone c.args.self.now

pub loop-place-preserved : goal.loop-place-preserved
loop-place-preserved g c = more_gone c.args.self.now c.loop-place.self c.drop_one.new.self c.loop-place.invariant c.drop_one.ensures

pub returns : goal.returns
returns g c = c.loop-place.invariant
