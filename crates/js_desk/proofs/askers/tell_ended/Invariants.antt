use Rattle.std.proofs.Common.{◌≡◌}
use Rattle.js_desk.specs.Askers.{after}
use Rattle.js_desk.proofs.askers.tell_ended.Given as goal

abbrev pub invariant-loop-ender : goal.invariant-loop-ender
invariant-loop-ender g l = l.answered.items ≡ after l.yielded l.initial.answered.items
