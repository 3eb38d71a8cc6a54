use Rattle.std.proofs.Common.{subst}
use Rattle.js_http.specs.Writing.{WritesFront}
use Rattle.js_http.proofs.WritingLemmas.{protocol_are}
use Rattle.js_http.proofs.write.write_protocol_switch.Goals as goal

pub returns : goal.returns
returns g c =
    subst (λ text. WritesFront (g.W.Write.contents c.args.writer.now) (g.W.Write.contents c.write_parts.new.writer) text c.write_parts.result)
    (protocol_are _ _ _ _ c.as_bytes.ensures.value c.as_bytes-2.ensures.value) c.write_parts.ensures
