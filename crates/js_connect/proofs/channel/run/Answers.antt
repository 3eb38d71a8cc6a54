use Rattle.js_connect.proofs.Channels.{goes_further, stays}
use Rattle.js_connect.proofs.channel.run.Goals as goal

pub loop-init : goal.loop-init
loop-init g c = stays c.args.channel

pub loop-preserved : goal.loop-preserved
loop-preserved g c = goes_further c.args.channel c.loop.channel c.make_turn-next.result.0 c.loop.invariant c.make_turn-next.ensures.goes

pub returns-then-not-open-clause-goes : goal.returns-then-not-open-clause-goes
returns-then-not-open-clause-goes g c = goes_further c.args.channel c.loop.channel c.make_turn-next.result.0 c.loop.invariant c.make_turn-next.ensures.goes
