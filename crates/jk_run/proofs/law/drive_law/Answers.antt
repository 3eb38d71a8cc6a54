use Rattle.jk_run.proofs.Driving.{drive_runs}
use Rattle.jk_run.proofs.law.drive_law.Goals as goal

pub returns : goal.returns
returns g c = drive_runs g.L.Language.spoken
