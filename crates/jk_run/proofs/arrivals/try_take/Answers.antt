use Rattle.jk_run.proofs.Acting.{took_one, moves_take, moves_same}
use Rattle.jk_run.proofs.arrivals.try_take.Goals as goal

pub returns-in-Ok-clause-took : goal.returns-in-Ok-clause-took
returns-in-Ok-clause-took g c = took_one g.L.Language.spoken c.args.arrival c.args.kernel.now c.take.new.self c.in-Ok.ensures.ok c.requires

pub returns-in-Ok-clause-acts : goal.returns-in-Ok-clause-acts
returns-in-Ok-clause-acts g c = moves_take g.L.Language.spoken c.args.arrival c.args.kernel.now c.take.new.self c.requires c.in-Ok.ensures.ok

pub returns-in-Err-clause-acts : goal.returns-in-Err-clause-acts
returns-in-Err-clause-acts g c = moves_same g.L.Language.spoken c.args.kernel.now c.take.new.self c.in-Err.ensures.err.1
