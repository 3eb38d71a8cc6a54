use Rattle.ob_image.proofs.Loads.{code_loads}
use Rattle.ob_image.proofs.linked_laws.loads_law.Goals as goal

pub returns : goal.returns
returns c = code_loads
