use Rattle.std.proofs.Common.{arith, sym, ◌∙◌, drop, length-drop}
use Rattle.js_http.specs.Expecting.{expects_continue}
use Rattle.js_http.proofs.RequestLemmas.{length_of-head}
use Rattle.js_http.proofs.expecting.awaits.Goals as goal

pub returns-then-len-begun : goal.returns-then-len-begun
returns-then-len-begun c is =
    let begun = c.args.begun.now in
    let at = c.requires.head.1 in (
      c.requires.head.0,
      drop begun.head.len begun.received.items,
      begun.len,
      record { reads = at.reads; short = omega (arith, at.len, at.within, c.requires.short); few = at.few },
      length_of-head _ _ _ at ∙ c.requires.stated,
      omega (arith, length-drop begun.head.len begun.received.items, c.len.ensures, c.if-len-begun.true),
      (λ i. expects_continue (sym at.minor i) (sym at.headers i)) ∙ sym c.expects.ensures ∙ is,
    )
