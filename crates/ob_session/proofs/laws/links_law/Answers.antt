use Rattle.ob_session.proofs.Links.{each_links}
use Rattle.ob_session.proofs.laws.links_law.Goals as goal

pub returns : goal.returns
returns c = each_links
