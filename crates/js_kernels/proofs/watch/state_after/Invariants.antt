use Rattle.std.proofs.Common.{◌≡◌, drop}
use Rattle.js_kernels.specs.Watching.{state_after}
use Rattle.js_kernels.proofs.watch.state_after.Given as goal

-- after the entries that are left, the state is that after all of them
abbrev pub invariant-loop-entry : goal.invariant-loop-entry
invariant-loop-entry l = state_after l.state (drop l.entry-index l.entries) ≡ state_after l.fn.before l.entries
