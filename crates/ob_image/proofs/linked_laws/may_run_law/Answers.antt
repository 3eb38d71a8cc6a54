use Rattle.ob_image.proofs.MayRun.{each_may_run}
use Rattle.ob_image.proofs.linked_laws.may_run_law.Goals as goal

pub returns : goal.returns
returns c = each_may_run
