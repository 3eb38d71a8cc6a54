use Rattle.ob_image.proofs.Agreeing.{agrees}
use Rattle.ob_image.proofs.linked_laws.agrees_law.Goals as goal

pub returns : goal.returns
returns c = agrees
