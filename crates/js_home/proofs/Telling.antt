-- What seat 0 of a home sends.
use Rattle.std.proofs.Common.{◌≡◌, ◌⊎◌, ◌<◌, ◌+◌, ◌^◌, ℕ, List, [], ◌∷◌, ◌++◌, length, Result, Ok, Err, MatchResult, ap, ◌∙◌}
use Rattle.crossbeam_queue.specs.Fifo.{Held}
use Rattle.jk_log.specs.declared.arrival.Arrival.{Arrival}
use Rattle.jk_log.specs.declared.arrival.What.{What}
use Rattle.jk_queues.specs.declared.inbox.Full.{Full}
use Rattle.jk_queues.specs.declared.part.Part.{Part}
use Rattle.jk_queues.specs.Ends.{seat_inbox, seat_view, sent_by}
use Rattle.jk_queues.specs.Inbox.{Stands, sends, own}
use Rattle.js_home.specs.Homes.{Tells, KeepsPlaces, arrival_of, told_by}
use Rattle.js_home.specs.declared.home.Home.{Home}
use Rattle.js_home.proofs.Sending.{submitted}

abbrev make : ℕ → ℕ → What → Arrival
make p n w = record { seat = p; number = n; what = w }

pub arrival_is : (p n : ℕ) (w : What) (sent : List Arrival) → p ≡ 0 → n ≡ length sent + 1 → make p n w ≡ arrival_of sent w
arrival_is p n w sent a b = ap (λ (s : ℕ). make s n w) a ∙ ap (λ (k : ℕ). make 0 k w) b

module _ {L S T M : Type 0} where
  pub tells : (old new : Home L S T M) (what : What) (x : Arrival) (r : Result (Unit {0}) Full) → x ≡ arrival_of (told_by old) what → x.seat ≡ old.zero.place
      → seat_inbox new.zero ≡ seat_inbox old.zero → KeepsPlaces old new
      → MatchResult r (λ _. seat_view new.zero ≡ sends (seat_view old.zero) x) (λ full. (full.arrival ≡ x) × (seat_view new.zero ≡ seat_view old.zero))
      → MatchResult r (λ _. Unit {0}) (λ full. Held 256 (Stands (seat_view old.zero)) ⊎ (2 ^ 62 < length (sent_by old.zero)))
      → Tells old what r new
  tells old new what x (Ok done) is seat inbox keeps pushed full =
      (submitted old.zero new.zero x seat pushed ∙ ap (λ (y : Arrival). told_by old ++ y ∷ []) is, inbox, keeps)
  tells old new what x (Err why) is seat inbox keeps back full =
      (ap (λ (v : Part). (own v).sent) back.1, inbox, keeps, back.0 ∙ is, full)
