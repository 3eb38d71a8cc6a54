use Rattle.std.proofs.Common.{◌∙◌, sym, refl, append-nil, None, Some, inl, inr}
use Rattle.js_ws.specs.Arrivals.{sent_or_held}
use Rattle.js_ws.proofs.Turns.{none_in, said_more}
use Rattle.js_ws.proofs.turn.listen.Goals as goal

pub returns-then-has_failed-clause-listened : goal.returns-then-has_failed-clause-listened
returns-then-has_failed-clause-listened g c = record {
  heard = None;
  hears = (refl, inl (sym c.has_failed.ensures ∙ c.if-has_failed.true));
  by_limit = refl;
  arrivals = c.submit-ready.ensures.all ∙ sym (append-nil (sent_or_held c.args.outbox));
}

pub returns-then-waits-clause-listened : goal.returns-then-waits-clause-listened
returns-then-waits-clause-listened g c =
    let waits = sym c.waits.ensures ∙ c.if-waits.true in
    record {
      heard = None;
      hears = (refl, inr (waits, c.submit-ready.ensures.hand waits));
      by_limit = refl;
      arrivals = c.submit-ready.ensures.all ∙ sym (append-nil (sent_or_held c.args.outbox));
    }

pub say-said-requires : goal.say-said-requires
say-said-requires g c = record { none = none_in c.submit-ready.result.hand (sym c.waits.ensures ∙ c.if-waits.false) }

pub returns-clause-listened : goal.returns-clause-listened
returns-clause-listened g c = record {
  heard = Some c.hear-heard.result;
  hears = (sym c.has_failed.ensures ∙ c.if-has_failed.false, c.hear-heard.ensures.heard, c.hear-heard.ensures.failed);
  by_limit = c.is_quiet-quiet.ensures;
  arrivals =
      said_more (sent_or_held c.say-said.result) (sent_or_held c.submit-ready.result) (sent_or_held c.args.outbox) c.submit-ready.result.seat.place
      c.args.outbox.seat.place c.hear-heard.result c.say-said.ensures.all c.submit-ready.ensures.all c.submit-ready.ensures.seat.0;
}
