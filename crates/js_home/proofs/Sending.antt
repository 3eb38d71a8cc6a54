-- What a seat has sent once it submits an arrival.
use Rattle.std.proofs.Common.{◌≡◌, ℕ, ◌<◌, ◌==◌, true, List, [], ◌∷◌, ◌++◌, slice_index_or, refl, sym, ap, ◌∙◌, arith, eq-eqb}
use Rattle.std.specs.Prelude.{map}
use Rattle.jk_log.specs.declared.arrival.Arrival.{Arrival}
use Rattle.jk_queues.specs.declared.part.Part.{Part}
use Rattle.jk_queues.specs.declared.part.Sender.{Sender}
use Rattle.jk_queues.specs.declared.inbox.Seat.{Seat}
use Rattle.jk_queues.specs.Inbox.{of, sends, own, sender, nobody}
use Rattle.jk_queues.specs.Ends.{seat_view, sent_by}

of_own : (p : ℕ) (x : Arrival) → x.seat ≡ p → of p (x ∷ []) ≡ x ∷ []
of_own p x same = let e : (x.seat == p) ≡ true = eq-eqb x.seat p same in rw e refl

first_sends : (ss : List Sender) (x : Arrival) → (slice_index_or ss 0 nobody).place ≡ x.seat → x.seat < 8
    → (slice_index_or (map (λ s. sender s.place (s.sent ++ of s.place (x ∷ []))) ss) 0 nobody).sent ≡ (slice_index_or ss 0 nobody).sent ++ x ∷ []
first_sends [] x same low = absurd (omega arith)
first_sends (s ∷ ss) x same low = ap (λ xs. s.sent ++ xs) (of_own s.place x (sym same))

-- the arrival was pushed
pub submitted : (s t : Seat) (x : Arrival) → x.seat ≡ s.place → seat_view t ≡ sends (seat_view s) x → sent_by t ≡ sent_by s ++ x ∷ []
submitted s t x same pushed =
    ap (λ (v : Part). (own v).sent) pushed ∙ first_sends (seat_view s).senders x (s.own_place ∙ sym same) (rw same s.seated)
