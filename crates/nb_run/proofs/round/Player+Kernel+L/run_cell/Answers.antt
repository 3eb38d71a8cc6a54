use Rattle.std.proofs.Common.{◌++◌}
use Rattle.nb_run.proofs.Goings.{goes_on}
use Rattle.nb_run.proofs.Rounds.{sent_more, done_more}
use Rattle.nb_run.proofs.round.Player+Kernel+L.run_cell.Goals as goal

pub returns-then-round : goal.returns-then-round
returns-then-round g c =
    let before = c.slices.invariant in
    let round = c.in_ok-round.ensures in (
      before.0 ++ round.0,
      before.1 ++ round.1,
      goes_on c.args.self.now c.slices.self c.round.new.self before.0 round.0 before.1 round.1 before.2 round.2,
      sent_more c.args.code.now before.0 round.0 before.3 round.3,
      done_more before.1 round.1 c.slices.done c.in_ok-round.round.done c.either-done.result before.4 round.4 c.either-done.ensures,
      round.5 c.if-round.true,
    )

pub slices-preserved : goal.slices-preserved
slices-preserved g c =
    let before = c.slices.invariant in
    let round = c.in_ok-round.ensures in (
      before.0 ++ round.0,
      before.1 ++ round.1,
      goes_on c.args.self.now c.slices.self c.round.new.self before.0 round.0 before.1 round.1 before.2 round.2,
      sent_more c.args.code.now before.0 round.0 before.3 round.3,
      done_more before.1 round.1 c.slices.done c.in_ok-round.round.done c.either-done.result before.4 round.4 c.either-done.ensures,
    )
