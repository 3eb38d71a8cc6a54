use Rattle.std.proofs.Common.{subst}
use Rattle.ob_step.specs.Needs.{Needs}
use Rattle.ob_step.proofs.Sound.{needs, place_fits}
use Rattle.ob_step.proofs.Calls.{call_either_safe, call_either_done, call_either_refused, call_either_deeper}
use Rattle.ob_step.proofs.turn.take_call.Goals as goal

pub call-requires-clause-callable : goal.call-requires-clause-callable
call-requires-clause-callable c =
    let at = c.requires.at in
    subst (Needs c.args.code.now c.args.state.now) at.3 (needs c.args.code.now c.args.state.now c.requires.safe at.1 at.2)

pub call-requires-clause-place : goal.call-requires-clause-place
call-requires-clause-place c =
    let at = c.requires.at in
    place_fits c.args.code.now c.args.state.now c.requires.safe at.1 at.2

pub returns-clause-safe : goal.returns-clause-safe
returns-clause-safe c =
    let at = c.requires.at in
    call_either_safe c.args.code.now c.args.state.now c.call.new.state c.requires.safe at.1 at.2 c.args.called at.0 at.3 at.4 c.call.result c.call.ensures.ok c.call.ensures.err

pub returns-clause-ok : goal.returns-clause-ok
returns-clause-ok c =
    let at = c.requires.at in
    call_either_done c.args.code.now c.args.state.now c.call.new.state c.requires.safe at.1 at.2 c.args.called at.0 at.3 at.4 c.call.result c.call.ensures.ok

pub returns-clause-err : goal.returns-clause-err
returns-clause-err c =
    let at = c.requires.at in
    call_either_refused c.args.code.now c.args.state.now c.call.new.state c.requires.safe at.1 at.2 c.args.called at.0 at.3 at.4 c.call.result
    (subst (Needs c.args.code.now c.args.state.now) at.3 (needs c.args.code.now c.args.state.now c.requires.safe at.1 at.2)) c.call.ensures.err

pub returns-clause-frames : goal.returns-clause-frames
returns-clause-frames c = call_either_deeper c.args.code.now c.args.state.now c.call.new.state c.args.called c.call.result c.call.ensures.ok
