use Rattle.ob_image.proofs.Running.{loaded_runs}
use Rattle.ob_image.proofs.linked_laws.loaded_runs_law.Goals as goal

pub returns : goal.returns
returns c = loaded_runs
