use Rattle.std.proofs.Common.{subst}
use Rattle.std.specs.Prelude.{codes, []}
use Rattle.js_http.specs.Responses.{lines_text}
use Rattle.js_http.specs.Writing.{WritesFront}
use Rattle.js_http.proofs.write.write_content.Goals as goal

pub returns : goal.returns
returns g c =
    subst (λ len. WritesFront (g.W.Write.contents c.args.writer.now) (g.W.Write.contents c.write_lines.new.writer)
    (lines_text c.args.status_line.now (codes "application/json") [] len c.args.body.now) c.write_lines.result)
    c.format-len.ensures.text c.write_lines.ensures
