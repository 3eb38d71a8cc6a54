use Rattle.std.proofs.Common.{arith}
use Rattle.ob_step.specs.declared.state.State.{State}
use Rattle.ob_step.proofs.Steps.{goes_safe, caller_roomy, returned_is}
use Rattle.ob_step.proofs.step.leave.Goals as goal

after : goal.After-state-1 → State
after c = record { at = c.pop_frame-state.result; stack = c.args.state.now.stack; names = c.truncate.new.self; frames = c.pop_frame-state.new.frames; cells = c.truncate-2.new.self; written = c.args.state.now.written; input = c.args.state.now.input }

pub returns-clause-safe : goal.returns-clause-safe
unfolding after
returns-clause-safe c =
    let e = returned_is c.args.code.now c.args.state.now c.args.state.now c.requires.safe c.pop_frame-state.result _ c.pop_frame-state.ensures.top c.requires.end in
    goes_safe c.args.code.now c.args.state.now (after c) c.requires.safe (cc (e, c.truncate.ensures.items, c.truncate-2.ensures.items))
    (caller_roomy c.args.code.now c.args.state.now c.args.state.now c.requires.safe c.pop_frame-state.result _ c.pop_frame-state.ensures.top c.requires.end _ _ (omega arith) (omega (arith, c.truncate.ensures.capacity)))

pub returns-clause-back : goal.returns-clause-back
unfolding after
returns-clause-back c =
    let e = returned_is c.args.code.now c.args.state.now c.args.state.now c.requires.safe c.pop_frame-state.result _ c.pop_frame-state.ensures.top c.requires.end in
    λ _. cc (e, c.truncate.ensures.items, c.truncate-2.ensures.items)
