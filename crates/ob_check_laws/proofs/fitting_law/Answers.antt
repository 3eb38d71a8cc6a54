use Rattle.ob_check_laws.proofs.Modules.{each_checked}
use Rattle.ob_check_laws.proofs.fitting_law.Goals as goal

pub returns : goal.returns
returns c = each_checked
