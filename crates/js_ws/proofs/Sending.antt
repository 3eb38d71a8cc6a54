-- What a seat has sent once it submits an arrival.
use Rattle.std.proofs.Common.{◌≡◌, ℕ, ◌+◌, ◌<◌, ◌==◌, true, List, [], ◌∷◌, ◌++◌, length, slice_index_or, append-nil, refl, sym, ap, ◌∙◌, arith, eq-eqb, Option, None, Some}
use Rattle.std.specs.Prelude.{map}
use Rattle.jk_log.specs.declared.arrival.Arrival.{Arrival}
use Rattle.jk_log.specs.declared.arrival.What.{What}
use Rattle.jk_queues.specs.declared.part.Part.{Part}
use Rattle.jk_queues.specs.declared.part.Sender.{Sender}
use Rattle.jk_queues.specs.declared.inbox.Seat.{Seat}
use Rattle.jk_queues.specs.Inbox.{of, sends, own, sender, nobody}
use Rattle.jk_queues.specs.Ends.{seat_view, sent_by}
use Rattle.js_ws.specs.Arrivals.{next_arrival, in_hand, sent_or_held}
use Rattle.js_ws.specs.declared.outbox.Outbox.{Outbox}

of_own : (p : ℕ) (x : Arrival) → x.seat ≡ p → of p (x ∷ []) ≡ x ∷ []
of_own p x same = let e : (x.seat == p) ≡ true = eq-eqb x.seat p same in rw e refl

first_sends : (ss : List Sender) (x : Arrival) → (slice_index_or ss 0 nobody).place ≡ x.seat → x.seat < 8
    → (slice_index_or (map (λ s. sender s.place (s.sent ++ of s.place (x ∷ []))) ss) 0 nobody).sent ≡ (slice_index_or ss 0 nobody).sent ++ x ∷ []
first_sends [] x same low = absurd (omega arith)
first_sends (s ∷ ss) x same low = ap (λ xs. s.sent ++ xs) (of_own s.place x (sym same))

abbrev make : ℕ → ℕ → What → Arrival
make p n w = record { seat = p; number = n; what = w }

arrival_is : (x : Arrival) (p n : ℕ) (w : What) → x.seat ≡ p → x.number ≡ n → x.what ≡ w → x ≡ make p n w
arrival_is x p n w a b c =
    ap (λ (s : ℕ). make s x.number x.what) a ∙ (ap (λ (k : ℕ). make p k x.what) b ∙ ap (λ (y : What). make p n y) c)

-- the arrival was pushed, and nothing is in hand
pub submitted : (s t : Seat) (x : Arrival) (w : What) → seat_view t ≡ sends (seat_view s) x
    → x.seat ≡ s.place → x.number ≡ length (sent_by s) + 1 → x.what ≡ w
    → sent_by t ++ [] ≡ sent_by s ++ next_arrival s.place (sent_by s) w ∷ []
submitted s t x w pushed a b c =
    append-nil (sent_by t) ∙ (ap (λ (v : Part). (own v).sent) pushed
    ∙ (first_sends (seat_view s).senders x (s.own_place ∙ sym a) (rw a s.seated)
    ∙ ap (λ (y : Arrival). sent_by s ++ y ∷ []) (arrival_is x s.place (length (sent_by s) + 1) w a b c)))

-- the arrival came back, and is in hand again
pub kept_back : (s t : Seat) (w v : What) → seat_view t ≡ seat_view s → t.place ≡ s.place → v ≡ w
    → sent_by t ++ next_arrival t.place (sent_by t) v ∷ [] ≡ sent_by s ++ next_arrival s.place (sent_by s) w ∷ []
kept_back s t w v same place is =
    let sent : sent_by t ≡ sent_by s = ap (λ (p : Part). (own p).sent) same in rw (sent, place, is) refl

-- nothing was in hand, and now this is
pub in_hand_now : (o : Outbox) (w : What) → o.hand ≡ None
    → sent_by o.seat ++ next_arrival o.seat.place (sent_by o.seat) w ∷ [] ≡ sent_or_held o ++ next_arrival o.seat.place (sent_or_held o) w ∷ []
in_hand_now o w none = rw (none, append-nil (sent_by o.seat)) refl
