use Rattle.ob_image.proofs.Commands.{commands_run}
use Rattle.ob_image.proofs.linked_laws.commands_law.Goals as goal

pub returns : goal.returns
returns c = commands_run
