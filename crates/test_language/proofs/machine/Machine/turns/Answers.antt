use Rattle.std.proofs.Common.{refl, ap, ◌∙◌, arith, rules, ℕ, ◌<◌, length}
use Rattle.jk_language.specs.MachineState.{MachineState}
use Rattle.test_language.specs.States.{machine_state}
use Rattle.test_language.proofs.Answering.{one_more, ends, asks_line, stops, wants}
use Rattle.test_language.proofs.machine.Machine.turns.Goals as goal

pub returns-then-self : goal.returns-then-self
returns-then-self c = asks_line (machine_state c.args.self.now) c.args.self.now c.args.most 0 (search rules) (omega arith) c.if-self.true c.requires

pub returns-then-is_at_end : goal.returns-then-is_at_end
returns-then-is_at_end c =
    ends (machine_state c.args.self.now) _ c.loop-given.self c.args.most c.loop-given.given c.ending.result c.loop-given.invariant.state c.loop-given.auto.given-end c.loop-given.invariant.quiet
    (search rules) c.ending.ensures refl

pub step-requires-clause-on : goal.step-requires-clause-on
step-requires-clause-on c = c.loop-given.invariant.quiet

pub returns-in-Err : goal.returns-in-Err
returns-in-Err c =
    let m = c.loop-given.self in
    let within = m.stands.within in
    let more : m.turns < length m.text = search rules in
    wants (machine_state c.args.self.now) _ m c.args.most c.loop-given.given c.loop-given.invariant.state c.loop-given-test.true c.loop-given.invariant.quiet c.loop-given.invariant.on more
    c.in-Err.ensures.wants c.in-Err.ensures.err

pub returns-then-self-2 : goal.returns-then-self-2
returns-then-self-2 c =
    asks_line (machine_state c.args.self.now) c.step.new.self c.args.most _ (one_more (machine_state c.args.self.now) c.loop-given.given c.loop-given.self c.step.new.self c.loop-given.invariant.state c.in-Ok.ensures.ok)
    (omega arith) c.if-self-2.true (ap (λ (s : MachineState ℕ). s.over) c.in-Ok.ensures.ok ∙ c.loop-given.invariant.on)

pub returns-then-is_at_end-2 : goal.returns-then-is_at_end-2
returns-then-is_at_end-2 c =
    ends (machine_state c.args.self.now) _ c.loop-given.self c.args.most c.loop-given.given c.ending-then-is_at_end-2.result c.loop-given.invariant.state c.loop-given.auto.given-end c.loop-given.invariant.quiet
    (search rules) c.ending-then-is_at_end-2.ensures refl

pub returns : goal.returns
returns c =
    stops (machine_state c.args.self.now) c.loop-given.self c.args.most c.loop-given.given c.loop-given.invariant.state (omega arith) c.loop-given.invariant.quiet c.loop-given.invariant.on (search rules)
