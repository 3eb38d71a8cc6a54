use Rattle.thread_tests.proofs.Showing.{taken_shown}
use Rattle.thread_tests.proofs.joins.take_one.Goals as goal

pub returns : goal.returns
returns g c = taken_shown g.L.Language.spoken c.args.arrival c.args.kernel.now c.take.new.self c.in_ok-take.ensures.ok c.in_ok-take.ensures.legal
