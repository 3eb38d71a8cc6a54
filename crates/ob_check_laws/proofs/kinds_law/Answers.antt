use Rattle.ob_check_laws.proofs.Modules.{each_tree_agrees}
use Rattle.ob_check_laws.proofs.kinds_law.Goals as goal

pub returns : goal.returns
returns c = each_tree_agrees
