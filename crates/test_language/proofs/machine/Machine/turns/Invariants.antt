use Rattle.std.proofs.Common.{◌≡◌, ◌+◌, false}
use Rattle.test_language.specs.States.{machine_state}
use Rattle.test_language.proofs.machine.Machine.turns.Given as goal

abbrev pub invariant-loop-given : goal.invariant-loop-given
invariant-loop-given l = record {
  state : machine_state l.self ≡ record (machine_state l.initial.self) { turns = l.initial.self.turns + l.given; asks = l.self.asks; over = l.self.over };
  quiet : l.self.asks ≡ false;
  on : l.self.over ≡ false;
}
