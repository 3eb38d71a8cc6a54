use Rattle.ob_image.proofs.Commands.{commands_form}
use Rattle.ob_image.proofs.linked_laws.commands_form_law.Goals as goal

pub returns : goal.returns
returns c = commands_form
