use Rattle.std.proofs.Common.{◌≡◌, map, take}
use Rattle.std.specs.List.{list_any}
use Rattle.ob_session.specs.Session.{Module}
use Rattle.ob_link.specs.Reaching.{reaches_in}
use Rattle.ob_link.proofs.modules.Modules.next_reaching.Given as goal

abbrev pub invariant-loop-each : goal.invariant-loop-each
invariant-loop-each l = l.so_far.items ≡ map (λ (m : Module). list_any (reaches_in l.self l.behind l.name) m.imports) (take l.each-index l.each-items)
