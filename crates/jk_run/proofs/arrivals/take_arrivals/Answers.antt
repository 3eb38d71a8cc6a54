use Rattle.jk_run.proofs.Acting.{moves_on}
use Rattle.jk_run.proofs.arrivals.take_arrivals.Goals as goal

pub returns-in-Ok-clause-acts : goal.returns-in-Ok-clause-acts
returns-in-Ok-clause-acts g c = moves_on g.L.Language.spoken c.args.kernel.now c.take_hand.new.kernel c.take_all.new.kernel c.in-Ok.ensures.acts c.take_all.ensures.acts
