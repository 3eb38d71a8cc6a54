use Rattle.std.proofs.Common.{refl, inr}
use Rattle.js_http.specs.Expecting.{continue_text}
use Rattle.js_http.proofs.ServingLemmas.{known_at_err}
use Rattle.js_http.proofs.expecting.invite.Goals as goal

pub returns-then-awaits : goal.returns-then-awaits
returns-then-awaits g c =
    let awaits = c.if-awaits.ensures refl in (
      continue_text,
      inr (awaits, refl),
      c.write_bytes.ensures,
      known_at_err c.write_bytes.result awaits,
    )
