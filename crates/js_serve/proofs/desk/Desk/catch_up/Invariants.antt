use Rattle.std.proofs.Common.{◌≡◌}
use Rattle.js_serve.proofs.desk.Desk.catch_up.Given as goal

abbrev pub invariant-loop : goal.invariant-loop
invariant-loop g l = l.self.clients ≡ l.fn.self.clients
