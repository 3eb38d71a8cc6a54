use Rattle.std.proofs.Common.{◌≡◌, false, take, map}
use Rattle.ob_session.specs.Session.{Module}
use Rattle.ob_link.proofs.modules.Modules.none_reaches.Given as goal

abbrev pub invariant-loop-module : goal.invariant-loop-module
invariant-loop-module l = l.so_far.items ≡ map (λ (m : Module). false) (take l._module-index l._module-items)
