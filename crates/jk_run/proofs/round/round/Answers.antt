use Rattle.jk_run.proofs.Rounds.{driven_on, round_on}
use Rattle.jk_run.proofs.round.round.Goals as goal

pub returns-clause-acts : goal.returns-clause-acts
returns-clause-acts g c = driven_on g.L.Language.spoken c.args.driver c.show_hand-driver.result c.go_round-driver.result.0 c.show_hand-driver.ensures.acts c.go_round-driver.ensures.acts

pub returns-clause-done : goal.returns-clause-done
returns-clause-done g c = round_on g.L.Language.spoken c.args.driver c.show_hand-driver.result c.go_round-driver.result.0 c.args.turns c.go_round-driver.result.1 c.show_hand-driver.ensures.acts c.go_round-driver.ensures.done
