use Rattle.ob_gen.proofs.machine.Commands.{commands_behave}
use Rattle.ob_gen.proofs.laws.commands_law.Goals as goal

pub returns : goal.returns
returns c = commands_behave
