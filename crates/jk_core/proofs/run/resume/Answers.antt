use Rattle.jk_core.proofs.Works.{resumed}
use Rattle.jk_core.proofs.run.resume.Goals as goal

pub returns-clause-works : goal.returns-clause-works
returns-clause-works g c =
    resumed g.L.Language.spoken c.args.turns c.args.script.now.state c.reserve.new.self.state c.go_on.result c.go_on.new.script.state c.reserve.ensures.state c.go_on.ensures.goes
