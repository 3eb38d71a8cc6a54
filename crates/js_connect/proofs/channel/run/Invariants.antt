use Rattle.js_connect.specs.Channels.{GoesOn}
use Rattle.js_connect.proofs.channel.run.Given as goal

abbrev pub invariant-loop : goal.invariant-loop
invariant-loop g l = GoesOn l.fn.channel l.channel
