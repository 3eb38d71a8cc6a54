use Rattle.ob_image.proofs.Agreeing.{stays_agreeing}
use Rattle.ob_image.proofs.linked_laws.stays_agreeing_law.Goals as goal

pub returns : goal.returns
returns c = stays_agreeing
