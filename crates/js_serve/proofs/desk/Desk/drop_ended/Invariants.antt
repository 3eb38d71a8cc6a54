use Rattle.std.proofs.Common.{◌≡◌}
use Rattle.js_serve.proofs.desk.Desk.drop_ended.Given as goal

abbrev pub invariant-loop-place : goal.invariant-loop-place
invariant-loop-place g l = l.self.clients.turn ≡ l.fn.self.clients.turn
