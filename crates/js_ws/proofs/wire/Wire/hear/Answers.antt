use Rattle.std.proofs.Common.{◌∙◌, sym}
use Rattle.js_ws.proofs.Roles.{heard_role}
use Rattle.js_ws.proofs.wire.Wire.hear.Goals as goal

pub invariant_of-self : goal.invariant_of-self
invariant_of-self g c = record {
  serves = λ good.
      heard_role g.S.Read.remaining c.args.self.now.socket c.read-read.new.self c.args.self.now.names.protocol c.read-read.result c.heard_with-heard.result
      (c.args.self.now.serves c.requires.good) c.read-read.ensures c.heard_with-heard.ensures (sym c.is_fault-self.ensures ∙ good);
}
