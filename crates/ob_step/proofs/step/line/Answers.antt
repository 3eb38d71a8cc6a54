use Rattle.ob_step.proofs.Sound.{needs, place_fits}
use Rattle.ob_step.proofs.step.line.Goals as goal

pub returns-in-Some-clause-needs : goal.returns-in-Some-clause-needs
returns-in-Some-clause-needs c = needs c.args.code.now c.args.state.now c.requires.safe c.in-Some.line.now c.in-Some.ensures.some

pub returns-in-Some-clause-place : goal.returns-in-Some-clause-place
returns-in-Some-clause-place c = place_fits c.args.code.now c.args.state.now c.requires.safe c.in-Some.line.now c.in-Some.ensures.some
