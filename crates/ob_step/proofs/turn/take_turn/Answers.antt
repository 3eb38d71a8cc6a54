use Rattle.std.proofs.Common.{refl, subst}
use Rattle.ob_step.specs.Needs.{Needs}
use Rattle.ob_step.proofs.Calls.{either_safe, either_done, either_refused, call_either_safe, call_either_done, call_either_refused}
use Rattle.ob_step.proofs.turn.take_turn.Goals as goal

pub returns-in-Invoke-clause-safe : goal.returns-in-Invoke-clause-safe
returns-in-Invoke-clause-safe c = call_either_safe c.args.code.now c.args.state.now c.call.new.state c.requires.safe c.in-Some.line.now c.in-Some.ensures.some c.in-Invoke.callee c.in-Invoke.field-1 c.in-Invoke.is c.requires.turn c.call.result c.call.ensures.ok c.call.ensures.err

pub returns-in-Invoke-clause-ok : goal.returns-in-Invoke-clause-ok
returns-in-Invoke-clause-ok c = call_either_done c.args.code.now c.args.state.now c.call.new.state c.requires.safe c.in-Some.line.now c.in-Some.ensures.some c.in-Invoke.callee c.in-Invoke.field-1 c.in-Invoke.is c.requires.turn c.call.result c.call.ensures.ok

pub returns-in-Invoke-clause-err : goal.returns-in-Invoke-clause-err
returns-in-Invoke-clause-err c = call_either_refused c.args.code.now c.args.state.now c.call.new.state c.requires.safe c.in-Some.line.now c.in-Some.ensures.some c.in-Invoke.callee c.in-Invoke.field-1 c.in-Invoke.is c.requires.turn c.call.result (subst (Needs c.args.code.now c.args.state.now) c.in-Invoke.is c.in-Some.ensures.needs) c.call.ensures.err

pub returns-in_default-instr : goal.returns-in_default-instr
returns-in_default-instr c = record {
  safe = either_safe c.args.code.now c.args.state.now c.turn_here.new.state c.requires.safe c.in-Some.line.now c.in-Some.ensures.some c.in-Some.line.now.instr refl c.turn_here.result c.turn_here.ensures.ok c.turn_here.ensures.err;
  ok = either_done c.args.code.now c.args.state.now c.turn_here.new.state c.requires.safe c.in-Some.line.now c.in-Some.ensures.some c.in-Some.line.now.instr refl c.turn_here.result c.turn_here.ensures.ok;
  err = either_refused c.args.code.now c.args.state.now c.turn_here.new.state c.requires.safe c.in-Some.line.now c.in-Some.ensures.some c.in-Some.line.now.instr refl c.turn_here.result c.turn_here.ensures.err c.turn_here.ensures.grows;
}
