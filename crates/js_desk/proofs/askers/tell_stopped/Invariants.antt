use Rattle.std.proofs.Common.{◌≡◌}
use Rattle.js_desk.specs.Askers.{after}
use Rattle.js_desk.proofs.askers.tell_stopped.Given as goal

abbrev pub invariant-loop-kept : goal.invariant-loop-kept
invariant-loop-kept g l = l.answered.items ≡ after l.yielded l.initial.answered.items
