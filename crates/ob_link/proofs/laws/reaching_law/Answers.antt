use Rattle.ob_link.proofs.Chains.{each_reaches}
use Rattle.ob_link.proofs.laws.reaching_law.Goals as goal

pub returns : goal.returns
returns c = each_reaches
