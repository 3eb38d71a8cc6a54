use Rattle.jk_run.proofs.Acting.{moves_on}
use Rattle.jk_run.proofs.arrivals.take_one.Goals as goal

pub returns-then-let_go-clause-acts : goal.returns-then-let_go-clause-acts
returns-then-let_go-clause-acts g c =
    moves_on g.L.Language.spoken c.args.kernel.now c.try_take.new.kernel c.try_take-then-let_go.new.kernel c.try_take.ensures.acts c.try_take-then-let_go.ensures.acts
