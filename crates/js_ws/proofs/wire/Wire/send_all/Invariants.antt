use Rattle.std.proofs.Common.{◌≡◌, ◌+◌, false, take}
use Rattle.js_ws.specs.Frames.{SentAll}
use Rattle.js_ws.proofs.wire.Wire.send_all.Given as goal

abbrev pub invariant-loop-count : goal.invariant-loop-count
invariant-loop-count g l = record {
  good : l.self.failed ≡ false;
  sent : SentAll g.S.Write.contents l.fn.self.names l.date l.fn.self.sent l.fn.self.socket l.self.socket (take l.count l.held);
  count : l.self.sent ≡ l.fn.self.sent + l.count;
  names : l.self.names ≡ l.fn.self.names;
}
