use Rattle.nb_run.proofs.Goings.{work_goes}
use Rattle.nb_run.proofs.player.Player+Kernel+L.slice.Goals as goal

pub returns-clause-goes : goal.returns-clause-goes
returns-clause-goes g c =
    work_goes g.L.Language.spoken _ c.args.self.now c.work-work.result c.work-work.new.self c.args.self.now.sent c.work-work.ensures.works
