use Rattle.ob_link.proofs.Exchanged.{goes_back}
use Rattle.ob_link.proofs.laws.exchange_law.Goals as goal

pub returns : goal.returns
returns c = goes_back
