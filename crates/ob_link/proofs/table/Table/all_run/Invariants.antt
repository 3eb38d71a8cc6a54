use Rattle.std.proofs.Common.{◌≡◌, true, take, map}
use Rattle.ob_session.specs.Session.{Module}
use Rattle.ob_link.proofs.table.Table.all_run.Given as goal

abbrev pub invariant-loop-module : goal.invariant-loop-module
invariant-loop-module l = l.so_far.items ≡ map (λ (m : Module). true) (take l._module-index l._module-items)
