use Rattle.std.proofs.Common.{◌≡◌, ℕ, Bool, false, ◌+◌, ◌∙◌, sym, ap, refl}
use Rattle.std.specs.Prelude.{◌||◌}
use Rattle.js_ws.specs.Arrivals.{sent_or_held, is_due}
use Rattle.js_ws.specs.Turns.{came_of}
use Rattle.js_ws.proofs.Frames.{sent_as, ends_sent}
use Rattle.js_ws.proofs.Turns.{clash, left_more, answered}
use Rattle.js_ws.proofs.turn.channel_turn.Goals as goal

pub returns-then-is_over-clause-turn : goal.returns-then-is_over-clause-turn
returns-then-is_over-clause-turn g c not = absurd (clash _ (sym c.is_over.ensures ∙ c.if-is_over.true) not)

pub returns-clause-over : goal.returns-clause-over
returns-clause-over g c is = absurd (clash _ is (sym c.is_over.ensures ∙ c.if-is_over.false))

pub returns-then-is_over-clause-busy : goal.returns-then-is_over-clause-busy
returns-then-is_over-clause-busy g c not = absurd (clash _ (sym c.is_over.ensures ∙ c.if-is_over.true) not)

pub returns-clause-busy : goal.returns-clause-busy
returns-clause-busy g c not =
    let f = c.take-taken.ensures.found in
    (f.0, f.1, f.5)

pub returns-clause-turn : goal.returns-clause-turn
returns-clause-turn g c not =
    let l = c.listen-heard.ensures.listened in
    let f = rw c.place-place.ensures at c.take-taken.ensures.found in
    let s = c.send_held-count.ensures.first in
    let old = c.args.channel in
    let out = c.listen-heard.result.0 in
    let now = c.send_held-count.new.self in
    let due = is_due now.failed c.take-taken.result.0.ended out.leaving out.hand in
    let came = came_of old.outbox.seat.place (sent_or_held old.outbox) l.heard in
    let sent = λ (good : now.failed ≡ false).
    sent_as g.S.Write.contents old.wire.names c.listen-heard.new.wire.names c.args.date.now old.wire.sent c.listen-heard.new.wire.sent
    c.listen-heard.new.wire.socket now.socket s.0 c.listen-heard.ensures.same.0 c.listen-heard.ensures.same.1 (s.3 good) in
    record {
      heard = l.heard;
      mid = c.listen-heard.new.wire;
      hand = out.hand;
      hears = l.hears;
      came = came;
      comes = refl;
      due = due;
      when_due = ap (λ (b : Bool). is_due now.failed c.take-taken.result.0.ended b out.hand) c.listen-heard.ensures.leaving;
      arrivals =
          left_more (sent_or_held c.leave-left.result) (sent_or_held out) (sent_or_held old.outbox) came out.seat.place old.outbox.seat.place due
          c.leave-left.ensures.all l.arrivals c.listen-heard.ensures.seat.0;
      leaving = c.leave-left.ensures.leaving ∙ ap (λ (b : Bool). b || due) c.listen-heard.ensures.leaving;
      waits = c.leave-left.ensures.hand;
      full = c.leave-left.ensures.full c.listen-heard.ensures.full;
      seat = (c.leave-left.ensures.seat.0 ∙ c.listen-heard.ensures.seat.0, c.leave-left.ensures.seat.1 ∙ c.listen-heard.ensures.seat.1);
      got = f.0;
      board = c.take-taken.ensures.board;
      found = f.1;
      front = s.0;
      first = sym f.2 ∙ s.1;
      joined = f.3;
      ended = f.4;
      join = c.take-taken.ensures.same;
      sent = sent;
      ends = λ tells good.
          ends_sent g.S.Write.contents old.wire.names c.args.date.now old.wire.sent c.listen-heard.new.wire.socket now.socket s.0 tells (sent good);
      numbered = λ good.
          c.send_held-count.ensures.count good
          ∙ (ap (λ (n : ℕ). n + c.send_held-count.result) c.listen-heard.ensures.same.1 ∙ ap (λ (n : ℕ). old.wire.sent + n) (sym s.2));
      named = c.send_held-count.ensures.names ∙ c.listen-heard.ensures.same.0;
      stays_failed = λ bad. c.send_held-count.ensures.failed (ap (λ (b : Bool). b || c.take-taken.result.1) bad);
      answer = answered c.answer-turn.result _ c.listen-heard.result.1 _ _ c.send_held-count.result c.answer-turn.ensures l.by_limit s.2;
    }
