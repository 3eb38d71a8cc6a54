use Rattle.std.proofs.Common.{◌≡◌, ◌+◌, ◌∙◌, arith}
use Rattle.js_ws.proofs.Frames.{sent_next}
use Rattle.js_ws.proofs.wire.Wire.send_all.Goals as goal

pub loop-count-preserved : goal.loop-count-preserved
loop-count-preserved g c =
    let before = c.loop-count.invariant in
    let sends = c.in-Sent.ensures.sends in
    record {
      good = sends.1 ∙ before.good;
      sent =
          sent_next g.S.Write.contents c.args.self.now.names c.loop-count.self.names c.args.date.now c.args.self.now.sent c.loop-count.self.sent c.loop-count.count
          c.args.self.now.socket c.loop-count.self.socket c.send_entry.new.self.socket c.args.held.now c.index-held-count.result
          (omega arith) c.index-held-count.is before.names before.count before.sent sends.0;
      count = omega (arith, before.count, c.send_entry.ensures.count c.in-Sent.is);
      names = c.in-Sent.ensures.names ∙ before.names;
    }
