use Rattle.std.proofs.Common.{◌∙◌, ap}
use Rattle.std.specs.Prelude.{slice_get}
use Rattle.ob_step.proofs.Sound.{needs}
use Rattle.ob_step.proofs.step.line_in.Goals as goal

pub returns-in-Some-clause-needs : goal.returns-in-Some-clause-needs
returns-in-Some-clause-needs c =
    needs c.args.code.now c.args.state.now c.requires.safe c.in-Some.line.now (ap (λ ls. slice_get ls c.args.state.now.at.place) c.requires.lines ∙ c.in-Some.ensures.some)

pub returns-in-None-clause-none : goal.returns-in-None-clause-none
returns-in-None-clause-none c = ap (λ ls. slice_get ls c.args.state.now.at.place) c.requires.lines ∙ c.in-None.ensures.none
